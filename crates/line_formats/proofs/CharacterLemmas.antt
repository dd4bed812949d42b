-- One more character, and one more digit.
use Rattle.std.proofs.Common.{◌≡◌, ℕ, ◌+◌, ◌*◌, ◌/◌, ◌%◌, ◌^◌, ◌<◌, ◌≤◌, List, [], ◌∷◌, ◌++◌, length, drop, get_or}
use Rattle.std.proofs.Common.{ap, sym, ◌∙◌, append_assoc, append-nil, add-one, drop-cons}
use Rattle.rb_glyph.specs.declared.info.hb_glyph_info_t.{hb_glyph_info_t}
use Rattle.line_formats.specs.Characters.{bar_before, character, characters_from, hex_digit, last_digits}
use Rattle.line_formats.proofs.JsonLemmas.{drop_all}

-- the first of the digits that are left
pub last_digits-first : (k n : ℕ) → last_digits (k + 1) n ≡ hex_digit ((n / 2 ^ (4 * k)) % 16) ∷ last_digits k n
last_digits-first k n = ap (λ j. last_digits j n) (add-one k)

-- the bar, the number and the cluster
pub pieces : (old barred numbered now bar number cluster : List ℕ) → barred ≡ old ++ bar → numbered ≡ barred ++ number
    → now ≡ numbered ++ cluster → now ≡ old ++ (bar ++ (number ++ cluster))
pieces old barred numbered now bar number cluster b n e =
    e ∙ ap (λ l. l ++ cluster) (n ∙ ap (λ l. l ++ number) b) ∙ append_assoc (old ++ bar) number cluster
    ∙ append_assoc old bar (number ++ cluster)

-- one character more
pub characters_from-more : (infos : List hb_glyph_info_t) (i : ℕ) (text now whole : List ℕ) (d : hb_glyph_info_t)
    → i < length infos → text ++ characters_from i (drop i infos) ≡ whole
    → now ≡ text ++ (bar_before i ++ character (get_or infos i d))
    → now ++ characters_from (i + 1) (drop (i + 1) infos) ≡ whole
characters_from-more infos i text now whole d h old is =
    let piece = bar_before i ++ character (get_or infos i d) in
    let rest = characters_from (i + 1) (drop (i + 1) infos) in
    let first : characters_from i (drop i infos) ≡ piece ++ rest =
    ap (characters_from i) (drop-cons infos i d h)
    ∙ ap (λ k. piece ++ characters_from k (drop k infos)) (sym (add-one i)) in
    ap (λ l. l ++ rest) is ∙ append_assoc text piece rest ∙ ap (λ l. text ++ l) (sym first) ∙ old

-- no character more
pub characters_from-all : (infos : List hb_glyph_info_t) (i : ℕ) (text whole : List ℕ) → length infos ≤ i
    → text ++ characters_from i (drop i infos) ≡ whole → text ≡ whole
characters_from-all infos i text whole h old =
    sym (append-nil text) ∙ ap (λ l. text ++ characters_from i l) (sym (drop_all i infos h)) ∙ old

-- so many digits more are left
pub digits-more : (n m j q digit : ℕ) (old now whole : List ℕ) → old ++ last_digits m n ≡ whole → m ≡ j + 1 → q ≡ j
    → digit ≡ hex_digit ((n / 2 ^ (4 * j)) % 16) → now ≡ old ++ digit ∷ [] → now ++ last_digits q n ≡ whole
digits-more n m j q digit old now whole left m_is q_is digit_is is =
    let d = hex_digit ((n / 2 ^ (4 * j)) % 16) in
    ap (λ q. now ++ last_digits q n) q_is
    ∙ ap (λ l. l ++ last_digits j n) (is ∙ ap (λ d. old ++ d ∷ []) digit_is) ∙ append_assoc old (d ∷ []) (last_digits j n)
    ∙ ap (λ l. old ++ l) (sym (ap (λ m. last_digits m n) m_is ∙ last_digits-first j n)) ∙ left

pub digits-all : (n q : ℕ) (text whole : List ℕ) → q ≡ 0 → text ++ last_digits q n ≡ whole → text ≡ whole
digits-all n q text whole none left =
    sym (append-nil text) ∙ ap (λ q. text ++ last_digits q n) (sym none) ∙ left

-- what stands between brackets
pub bracketed : (old opened listed now before list behind : List ℕ) → opened ≡ old ++ before → listed ≡ opened ++ list
    → now ≡ listed ++ behind → now ≡ old ++ (before ++ list ++ behind)
bracketed old opened listed now before list behind o l e =
    e ∙ ap (λ t. t ++ behind) (l ∙ ap (λ t. t ++ list) o ∙ append_assoc old before list)
    ∙ append_assoc old (before ++ list) behind
