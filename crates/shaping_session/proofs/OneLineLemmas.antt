-- No answer has a line feed in it.
use Rattle.std.proofs.Common.{ℕ, ℤ, pos, negsuc, zero, suc, ◌≡◌, ◌==◌, ◌/◌, ◌%◌, ◌-◌, List, [], ◌∷◌, ◌++◌, map, length}
use Rattle.std.proofs.Common.{replicate, codes, option_map, bit_and, ◌&&◌, ◌||◌, not, ◌+ℤ◌, None, Bool, true, false}
use Rattle.std.proofs.Common.{if◌then◌else◌, refl, sym, subst, arith, Option}
use Rattle.std.specs.Prelude.{nat_le}
use Rattle.std.specs.Char.{to_ascii_lowercase}
use Rattle.std.specs.Fmt.{decimal, signed_decimal, digits, digits_onto, digit_glyph}
use Rattle.std.specs.Int.{from_bool}
use Rattle.std.specs.List.{join_with_byte}
use Rattle.std.specs.Ordering.{int_eq}
use Rattle.std.proofs.lemmas.Bool.Decides.{nat_tests}
use Rattle.std.proofs.lemmas.List.Folds.{list_any-append}
use Rattle.rb_glyph.specs.declared.flag_sets.SerializeFlags.{SerializeFlags}
use Rattle.rb_glyph.specs.declared.flag_sets.TheConstants.SerializeFlags.{NO_CLUSTERS, NO_POSITIONS, NO_GLYPH_NAMES}
use Rattle.rb_glyph.specs.declared.flag_sets.TheConstants.SerializeFlags.{GLYPH_EXTENTS, GLYPH_FLAGS, NO_ADVANCES}
use Rattle.rb_glyph.specs.declared.glyph_flag.TheConstants.{DEFINED}
use Rattle.rb_glyph.specs.declared.info.hb_glyph_info_t.{hb_glyph_info_t}
use Rattle.rb_glyph.specs.declared.names.GlyphExtents.{GlyphExtents}
use Rattle.rb_glyph.specs.declared.position.GlyphPosition.{GlyphPosition}
use Rattle.rb_text.specs.declared.feature.Feature.{Feature}
use Rattle.rb_text.specs.Tags.{scripts_of, languages_of}
use Rattle.shaping_buffer.specs.Positions.{with_zero_positions}
use Rattle.shaping_buffer.specs.Pushed.{pushed, added}
use Rattle.shaping_buffer.specs.State.{State}
use Rattle.shaping_buffer.specs.Step.{Outcome}
use Rattle.glyph_text.specs.Text.{nothing_known, has, name_text, cluster_text, offset_text, advance_text, position_text}
use Rattle.glyph_text.specs.Text.{flags_text, said_of}
use Rattle.glyph_text.specs.Text.{zero_extents, box_text, extents_text, x_advances, y_advances, glyph_text}
use Rattle.glyph_text.specs.Text.{glyph_texts}
use Rattle.shaping_buffer.specs.Text.{glyphs_of, text_of}
use Rattle.shaping_runs.specs.Replay.{turn}
use Rattle.shaping_runs.specs.declared.call.Answer.{Answer}
use Rattle.shaping_runs.specs.declared.call.Answer.TheVariants.{Done, Refused, Outside}
use Rattle.shaping_session.specs.Commands.{Request, push, add, level, flags, limit, call, replace_glyphs, state}
use Rattle.shaping_session.specs.Commands.{serialize, new, feature, tags, compose, decompose}
use Rattle.shaping_session.specs.Queries.{hexadecimal, eight_digits, feature_text, language_rows, spaced_tags}
use Rattle.shaping_session.specs.Queries.{tag_lists_text}
use Rattle.shaping_session.specs.Replies.{is_line_feed, IsOneLine, answer_text, truth_text}
use Rattle.shaping_session.specs.Session.{Follows, FollowsSerialize, Grows, held_by, is_within, may_be_printed}
use Rattle.shaping_session.specs.Session.{replacement_turn}
use Rattle.shaping_session.specs.StateText.{state_text, head_text, digit_of, items_text, item_text}
use Rattle.shaping_session.specs.declared.session.Session.{Session}
use Rattle.shaping_session.specs.declared.session.Session.TheVariants.{Text, Turned}

one_line-cons : (b : ℕ) (xs : List ℕ) → is_line_feed b ≡ false → IsOneLine xs → IsOneLine (b ∷ xs)
one_line-cons b xs h k = rw h k

pub one_line-append : (xs ys : List ℕ) → IsOneLine xs → IsOneLine ys → IsOneLine (xs ++ ys)
one_line-append xs ys h k = rw (list_any-append is_line_feed xs ys, h) k

one_line-if : (v : Bool) (xs ys : List ℕ) → IsOneLine xs → IsOneLine ys → IsOneLine (if v then xs else ys)
one_line-if true xs ys h k = h
one_line-if false xs ys h k = k

one_line-replicate : (n b : ℕ) → is_line_feed b ≡ false → IsOneLine (replicate n b)
one_line-replicate zero b h = refl
one_line-replicate (suc n) b h = one_line-cons b (replicate n b) h (one_line-replicate n b h)

digit_glyph-no_feed : (upper : Bool) (d : ℕ) → is_line_feed (digit_glyph upper d) ≡ false
digit_glyph-no_feed true d = grind (arith, nat_tests)
digit_glyph-no_feed false d = grind (arith, nat_tests)

one_line-digits_onto : (k base : ℕ) (upper : Bool) (n : ℕ) (xs : List ℕ) → IsOneLine xs
    → IsOneLine (digits_onto k base upper n xs)
one_line-digits_onto zero base upper n xs h = h
one_line-digits_onto (suc k) base upper n xs h =
    let more = one_line-cons (digit_glyph upper (n % base)) xs (digit_glyph-no_feed upper (n % base)) h in
    one_line-if (n / base == 0) (digit_glyph upper (n % base) ∷ xs)
    (digits_onto k base upper (n / base) (digit_glyph upper (n % base) ∷ xs))
    more (one_line-digits_onto k base upper (n / base) (digit_glyph upper (n % base) ∷ xs) more)

pub one_line-decimal : (n : ℕ) → IsOneLine (decimal n)
unfolding digits
one_line-decimal n = one_line-digits_onto 64 10 false n [] refl

pub one_line-hexadecimal : (n : ℕ) → IsOneLine (hexadecimal n)
unfolding digits
one_line-hexadecimal n = one_line-digits_onto 64 16 false n [] refl

one_line-signed : (z : ℤ) → IsOneLine (signed_decimal z)
one_line-signed (pos n) = one_line-decimal n
one_line-signed (negsuc n) = one_line-cons 45 (decimal (suc n)) refl (one_line-decimal (suc n))

-- two texts that a byte parts
parted : (xs : List ℕ) (b : ℕ) (ys : List ℕ) → is_line_feed b ≡ false → IsOneLine xs → IsOneLine ys
    → IsOneLine (xs ++ b ∷ ys)
parted xs b ys e h k = one_line-append xs (b ∷ ys) h (one_line-cons b ys e k)

one_line-join : {A : Type 0} (f : A → List ℕ) (b : ℕ) → is_line_feed b ≡ false → ((x : A) → IsOneLine (f x))
    → (xs : List A)
    → IsOneLine (join_with_byte b (map f xs))
one_line-join f b e h [] = refl
one_line-join f b e h (x ∷ []) = h x
one_line-join f b e h (x ∷ y ∷ xs) =
    parted (f x) b (join_with_byte b (map f (y ∷ xs))) e (h x) (one_line-join f b e h (y ∷ xs))

pub one_line-eight_digits : (n : ℕ) → IsOneLine (eight_digits n)
one_line-eight_digits n =
    one_line-append (replicate (8 - length (hexadecimal n)) 48) (hexadecimal n)
    (one_line-replicate (8 - length (hexadecimal n)) 48 refl) (one_line-hexadecimal n)

pub one_line-feature : (f : Feature) → IsOneLine (feature_text f)
one_line-feature f =
    let value = parted (eight_digits f.tag.0) 32 (decimal f.value) refl (one_line-eight_digits f.tag.0)
    (one_line-decimal f.value) in
    let start = parted (eight_digits f.tag.0 ++ 32 ∷ decimal f.value) 32 (decimal f.start) refl value
    (one_line-decimal f.start) in
    parted (eight_digits f.tag.0 ++ 32 ∷ decimal f.value ++ 32 ∷ decimal f.start) 32 (decimal f.end) refl start
    (one_line-decimal f.end)

one_line-spaced : (ts : List ℕ) → IsOneLine (spaced_tags ts)
one_line-spaced [] = refl
one_line-spaced (t ∷ ts) =
    one_line-append (32 ∷ eight_digits t) (spaced_tags ts)
    (one_line-cons 32 (eight_digits t) refl (one_line-eight_digits t)) (one_line-spaced ts)

one_line-tags : (scripts languages : List ℕ) → IsOneLine (tag_lists_text scripts languages)
one_line-tags scripts languages =
    let a = one_line-append (codes "scripts") (spaced_tags scripts) refl (one_line-spaced scripts) in
    let b = one_line-append (codes "scripts" ++ spaced_tags scripts) (codes " languages") a refl in
    one_line-append (codes "scripts" ++ spaced_tags scripts ++ codes " languages") (spaced_tags languages) b
    (one_line-spaced languages)

pub one_line-pair : (a b : ℕ) → IsOneLine (hexadecimal a ++ 32 ∷ hexadecimal b)
one_line-pair a b = parted (hexadecimal a) 32 (hexadecimal b) refl (one_line-hexadecimal a) (one_line-hexadecimal b)

one_line-item : (g : hb_glyph_info_t) → IsOneLine (item_text g)
one_line-item g =
    let cluster = parted (decimal g.glyph_id) 58 (decimal g.cluster) refl (one_line-decimal g.glyph_id)
    (one_line-decimal g.cluster) in
    parted (decimal g.glyph_id ++ 58 ∷ decimal g.cluster) 58 (decimal (bit_and g.mask 7)) refl cluster
    (one_line-decimal (bit_and g.mask 7))

one_line-items : (items : List hb_glyph_info_t) → IsOneLine (items_text items)
one_line-items items = one_line-join item_text 32 refl one_line-item items

one_line-head : (s : State) → IsOneLine (head_text s)
one_line-head s =
    let open_ =
    one_line-append (codes "open=") (digit_of s.have_output) refl (one_line-decimal (from_bool s.have_output)) in
    let at = one_line-append (codes "open=" ++ digit_of s.have_output) (codes " idx=") open_ refl in
    let cursor = one_line-append (codes "open=" ++ digit_of s.have_output ++ codes " idx=") (decimal s.idx) at
    (one_line-decimal s.idx) in
    let so = one_line-append (codes "open=" ++ digit_of s.have_output ++ codes " idx=" ++ decimal s.idx) (codes " ok=")
    cursor refl in
    one_line-append (codes "open=" ++ digit_of s.have_output ++ codes " idx=" ++ decimal s.idx ++ codes " ok=")
    (digit_of s.successful)
    so (one_line-decimal (from_bool s.successful))

one_line-state : (s : State) → IsOneLine (state_text s)
one_line-state s =
    let a = one_line-append (head_text s) (codes " out=[") (one_line-head s) refl in
    let b = one_line-append (head_text s ++ codes " out=[") (items_text s.out) a (one_line-items s.out) in
    let c = one_line-append (head_text s ++ codes " out=[" ++ items_text s.out) (codes "] in=[") b refl in
    let d = one_line-append (head_text s ++ codes " out=[" ++ items_text s.out ++ codes "] in=[") (items_text s.input) c
    (one_line-items s.input) in
    one_line-append (head_text s ++ codes " out=[" ++ items_text s.out ++ codes "] in=[" ++ items_text s.input)
    (codes "]") d refl

one_line-name : (set : SerializeFlags) (id : ℕ) → IsOneLine (name_text set None id)
one_line-name set id =
    one_line-if (has set NO_GLYPH_NAMES) (decimal id) (codes "gid" ++ decimal id) (one_line-decimal id)
    (one_line-append (codes "gid") (decimal id) refl (one_line-decimal id))

one_line-cluster : (set : SerializeFlags) (cluster : ℕ) → IsOneLine (cluster_text set cluster)
one_line-cluster set cluster =
    one_line-if (has set NO_CLUSTERS) [] (61 ∷ decimal cluster) refl
    (one_line-cons 61 (decimal cluster) refl (one_line-decimal cluster))

one_line-offset : (x y : ℤ) → IsOneLine (offset_text x y)
one_line-offset x y =
    one_line-if (int_eq x (pos 0) && int_eq y (pos 0)) [] (64 ∷ signed_decimal x ++ 44 ∷ signed_decimal y) refl
    (parted (64 ∷ signed_decimal x) 44 (signed_decimal y) refl
    (one_line-cons 64 (signed_decimal x) refl (one_line-signed x)) (one_line-signed y))

one_line-advance : (x y : ℤ) → IsOneLine (advance_text x y)
one_line-advance x y =
    let other = one_line-if (int_eq y (pos 0)) [] (44 ∷ signed_decimal y) refl
    (one_line-cons 44 (signed_decimal y) refl (one_line-signed y)) in
    one_line-append (43 ∷ signed_decimal x) (if int_eq y (pos 0) then [] else 44 ∷ signed_decimal y)
    (one_line-cons 43 (signed_decimal x) refl (one_line-signed x)) other

one_line-position : (set : SerializeFlags) (x y : ℤ) (p : GlyphPosition) → IsOneLine (position_text set x y p)
one_line-position set x y p =
    let moved = one_line-offset (x +ℤ p.x_offset) (y +ℤ p.y_offset) in
    let placed = one_line-append (offset_text p.x_offset p.y_offset) (advance_text p.x_advance p.y_advance)
    (one_line-offset p.x_offset p.y_offset) (one_line-advance p.x_advance p.y_advance) in
    let either = one_line-if (has set NO_ADVANCES) (offset_text (x +ℤ p.x_offset) (y +ℤ p.y_offset))
    (offset_text p.x_offset p.y_offset ++ advance_text p.x_advance p.y_advance) moved placed in
    one_line-if (has set NO_POSITIONS) [] (if has set NO_ADVANCES
    then offset_text (x +ℤ p.x_offset) (y +ℤ p.y_offset)
    else offset_text p.x_offset p.y_offset ++ advance_text p.x_advance p.y_advance) refl either

one_line-flags : (set : SerializeFlags) (mask : ℕ) → IsOneLine (flags_text set mask)
one_line-flags set mask =
    one_line-if (not (has set GLYPH_FLAGS) || bit_and mask DEFINED == 0) [] (35 ∷ decimal (bit_and mask DEFINED)) refl
    (one_line-cons 35 (decimal (bit_and mask DEFINED)) refl (one_line-decimal (bit_and mask DEFINED)))

one_line-extents : (set : SerializeFlags) → IsOneLine (extents_text set None)
unfolding digits
one_line-extents set = one_line-if (has set GLYPH_EXTENTS) (box_text zero_extents) [] refl refl

-- a font that knows nothing says nothing of any number
said_of-nothing : {A : Type 0} (id : ℕ) → said_of {A = A} (λ _. None) id ≡ None
said_of-nothing {A = A} id =
    let none : Option A = None in
    elim (nat_le id 65535) as (λ b. (if b then none else none) ≡ none) [ true ↦ refl | false ↦ refl ]

one_line-glyph : (set : SerializeFlags) (earlier : List GlyphPosition) (g : hb_glyph_info_t × GlyphPosition)
    → IsOneLine (glyph_text nothing_known set earlier g)
one_line-glyph set earlier g =
    let name = name_text set None g.0.glyph_id in
    let cluster = cluster_text set g.0.cluster in
    let position = position_text set (x_advances earlier) (y_advances earlier) g.1 in
    let marks = flags_text set g.0.mask in
    let box = extents_text set None in
    let told = one_line-append name cluster (one_line-name set g.0.glyph_id) (one_line-cluster set g.0.cluster) in
    let placed = one_line-append (name ++ cluster) position told
    (one_line-position set (x_advances earlier) (y_advances earlier) g.1) in
    let marked = one_line-append (name ++ cluster ++ position) marks placed (one_line-flags set g.0.mask) in
    let whole = one_line-append (name ++ cluster ++ position ++ marks) box marked (one_line-extents set) in
    rw (said_of-nothing {A = List ℕ} g.0.glyph_id, said_of-nothing {A = GlyphExtents} g.0.glyph_id) whole

one_line-glyphs : (set : SerializeFlags) (earlier : List GlyphPosition) (gs : List (hb_glyph_info_t × GlyphPosition))
    → IsOneLine (join_with_byte 124 (glyph_texts nothing_known set earlier gs))
one_line-glyphs set earlier [] = refl
one_line-glyphs set earlier (g ∷ []) = one_line-glyph set earlier g
one_line-glyphs set earlier (g ∷ h ∷ gs) =
    parted (glyph_text nothing_known set earlier g) 124
    (join_with_byte 124 (glyph_texts nothing_known set (earlier ++ g.1 ∷ []) (h ∷ gs))) refl
    (one_line-glyph set earlier g) (one_line-glyphs set (earlier ++ g.1 ∷ []) (h ∷ gs))

one_line-text : (set : SerializeFlags) (s : State) → IsOneLine (text_of nothing_known set s)
one_line-text set s = one_line-glyphs set [] (glyphs_of s)

one_line-truth : (done : Bool) → IsOneLine (truth_text done)
one_line-truth true = refl
one_line-truth false = refl

one_line-answer : (answer : Answer) → IsOneLine (answer_text answer)
one_line-answer Done = refl
one_line-answer Refused = refl
one_line-answer Outside = refl

one_line-grown : (step : State → Outcome) (before after : Session) (answer : List ℕ) → Grows step before after answer
    → IsOneLine answer
one_line-grown step (Text text) after answer h = subst IsOneLine (sym h.1) (one_line-truth (step text).done)
one_line-grown step (Turned buffer) after answer h = subst IsOneLine (sym h.1) refl

one_line-serialized : (set : SerializeFlags) (before after : Session) (answer : List ℕ)
    → FollowsSerialize set before after answer → IsOneLine answer
one_line-serialized set before after answer h =
    let printed = text_of nothing_known set (with_zero_positions (held_by before)) in
    subst IsOneLine (sym h.1) (one_line-if (may_be_printed set (held_by before)) printed (codes "outside")
    (one_line-text set (with_zero_positions (held_by before))) refl)

-- whatever is asked, the answer is one line
pub one_line-followed : (request : Request) (before after : Session) (answer : List ℕ)
    → Follows request before after answer → IsOneLine answer
one_line-followed (push text) before after answer h = one_line-grown (pushed text) before after answer h
one_line-followed (add c n) before after answer h = one_line-grown (added c n) before after answer h
one_line-followed (level n) before after answer h = subst IsOneLine (sym h.1) refl
one_line-followed (flags n) before after answer h = subst IsOneLine (sym h.1) refl
one_line-followed (limit n) before after answer h =
    subst IsOneLine (sym h.1) (one_line-if (is_within n (held_by before)) (codes "ok") (codes "outside") refl refl)
one_line-followed (call c) before after answer h =
    subst IsOneLine (sym h.1) (one_line-answer (turn c (held_by before)).answer)
one_line-followed (replace_glyphs num_in ids) before after answer h =
    subst IsOneLine (sym h.1) (one_line-answer (replacement_turn num_in ids (held_by before)).answer)
one_line-followed state before after answer h = subst IsOneLine (sym h.1) (one_line-state (held_by before))
one_line-followed (serialize n) before after answer h = one_line-serialized (record { 0 = n }) before after answer h
one_line-followed new before after answer h = subst IsOneLine (sym h.1) refl
one_line-followed (feature text) before after answer h = h.1.2
one_line-followed (tags script text) before after answer h =
    let language = option_map (λ t. map to_ascii_lowercase t) text in
    subst IsOneLine (sym h.1)
    (one_line-tags (scripts_of script language) (languages_of (λ prefix. None) language_rows language))
one_line-followed (compose a b) before after answer h = h.1.2
one_line-followed (decompose c) before after answer h = h.1.2
