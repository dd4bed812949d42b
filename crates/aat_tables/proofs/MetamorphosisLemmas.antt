-- How the chains of a table and their subtables are read one after the other.
use Rattle.std.proofs.Common.{◌≡◌, ◌∙◌, ◌<◌, ◌≤◌, ◌⊎◌, ◌+◌, ◌-◌, ◌*◌, ◌%◌, ◌++◌, ◌∷◌, [], ap, sym, refl, arith, ℕ, suc, Bool, true, false, List, Option, Some, None, length, drop, take, map, option_map, slice_range}
use Rattle.std.proofs.lemmas.List.{append-nil, append_assoc, map-append, length-map, length-drop, take-append-le, drop-append-le, length-append}
use Rattle.std.proofs.lemmas.Bool.Decides.{nat_tests}
use Rattle.std.proofs.lemmas.Option.{none-some}
use Rattle.std.specs.Prelude.{if◌then◌else◌, nat_eq, option_and_then, unwrap_or}
use Rattle.font_tables.specs.Bytes.{number_16}
use Rattle.std.proofs.lemmas.List.{take_all}
use Rattle.std.proofs.Math.Seq.{drop-append_seam}
use Rattle.aat_tables.specs.Metamorphosis.{AreWithin, ChainParts, SubtableParts, chains_in, chains_of, coverage_of, first_chain, is_whole_chain, is_whole_subtable, kind_of, number_or_0, parts_at, parts_of, read_chain, read_chains, subtable_at, subtables_in, subtables_start, with_kind}
use Rattle.aat_tables.specs.declared.metamorphosis.Chain.{Chain}
use Rattle.aat_tables.specs.declared.metamorphosis.Metamorphosis.{Metamorphosis}
use Rattle.aat_tables.specs.declared.metamorphosis.Subtable.{Subtable}

-- a subtable of a known kind is one more
pub map-one_more : (olds : List Subtable) (read : Subtable) (start : List ℕ) (bits : ℕ) → bits ≡ number_or_0 start 4
    → Some read.kind ≡ kind_of (bits % 256) → read.coverage ≡ coverage_of bits → read.flags ≡ number_or_0 start 8
    → read.table.now ≡ drop 12 start → map parts_of (olds ++ read ∷ []) ≡ map parts_of olds ++ subtable_at start
map-one_more olds read start bits is kind coverage flags table =
    let same : parts_of read ≡ parts_at start read.kind = rw (coverage, flags, table, is) refl in
    let one : parts_at start read.kind ∷ [] ≡ subtable_at start =
    ap (with_kind start) kind ∙ ap (λ b. with_kind start (kind_of (b % 256))) is in
    map-append parts_of olds (read ∷ []) ∙ ap (λ xs. map parts_of olds ++ xs) (ap (λ p. p ∷ []) same ∙ one)

-- one of another kind is none
pub none_more : (olds : List SubtableParts) (start : List ℕ) (bits : ℕ) → bits ≡ number_or_0 start 4 → kind_of (bits % 256) ≡ None
    → olds ≡ olds ++ subtable_at start
none_more olds start bits is kind =
    let none : subtable_at start ≡ [] =
    ap (λ b. with_kind start (kind_of (b % 256))) (sym is) ∙ ap (with_kind start) kind in
    sym (append-nil olds) ∙ ap (λ xs. olds ++ xs) (sym none)

pub option_map-joined : {A : Type 0} (xs ys : List A) (rest : Option (List A))
    → option_map (λ others. (xs ++ ys) ++ others) rest ≡ option_map (λ others. xs ++ others) (option_map (λ others. ys ++ others) rest)
option_map-joined xs ys None = refl
option_map-joined xs ys (Some others) = ap Some (append_assoc xs ys others)

-- a subtable that is whole stands before the others
pub option_map-next_subtable : (n within : ℕ) (start : List ℕ) (olds news : List SubtableParts) → 12 ≤ number_or_0 start 0
    → number_or_0 start 0 ≤ within → news ≡ olds ++ subtable_at start
    → option_map (λ others. news ++ others) (subtables_in n (within - number_or_0 start 0) (drop (number_or_0 start 0) start))
    ≡ option_map (λ others. olds ++ others) (subtables_in (suc n) within start)
option_map-next_subtable n within start olds news least most is =
    let whole : is_whole_subtable within start ≡ true = grind (arith, nat_tests) in
    rw (whole, is) (option_map-joined olds (subtable_at start) _)

-- subtables are being read: what was read stands before what the rest has, and is with it all that there is
pub record IsReading (olds news : Metamorphosis) (all rest : Option (List SubtableParts)) : Type 0 where
  pub parts : option_map (λ others. map parts_of news.subtables.items ++ others) rest
      ≡ option_map (λ others. map parts_of olds.subtables.items ++ others) all
  pub chains : news.chains.items ≡ olds.chains.items
  pub glyphs : news.glyph_count ≡ olds.glyph_count

pub none_of : {A B : Type 0} (f : A → B) (found : Option A) → option_map f found ≡ None → found ≡ None
none_of f None is = refl
none_of f (Some x) is = absurd (none-some _ (sym is))

-- one that is cut short ends all
pub subtables_in-cut_short : (n within : ℕ) (start : List ℕ) → number_or_0 start 0 < 12 ⊎ (within < number_or_0 start 0)
    → subtables_in (suc n) within start ≡ None
subtables_in-cut_short n within start short =
    let part : is_whole_subtable within start ≡ false = grind (arith, nat_tests) in
    rw part refl

-- subtables that are read later change no chain before
pub slice_range-same : {A : Type 0} (olds xs : List A) (first last : ℕ) → first ≤ last → last ≤ length olds
    → slice_range (olds ++ xs) first last ≡ slice_range olds first last
slice_range-same olds xs first last up within =
    let few : last - first ≤ length (drop first olds) = rw (length-drop first olds) (omega arith) in
    ap (λ ys. take (last - first) ys) (drop-append-le first olds xs (omega arith)) ∙ take-append-le (last - first) (drop first olds) xs few

pub map-same_chains : (olds xs : List SubtableParts) (chains : List Chain) → AreWithin (length olds) chains
    → map (read_chain (olds ++ xs)) chains ≡ map (read_chain olds) chains
map-same_chains olds xs [] within = refl
map-same_chains olds xs (chain ∷ chains) within =
    rw (slice_range-same olds xs chain.first chain.last within.0.0 within.0.1, map-same_chains olds xs chains within.1) refl

-- those of a chain that was read last are those behind all others
pub slice_range-last : {A : Type 0} (olds xs : List A) → slice_range (olds ++ xs) (length olds) (length (olds ++ xs)) ≡ xs
slice_range-last olds xs =
    let few : length xs ≤ length (olds ++ xs) - length olds = rw (length-append olds xs) (omega arith) in
    ap (λ ys. take (length (olds ++ xs) - length olds) ys) (drop-append_seam olds xs) ∙ take_all _ xs few

pub within_more : (count more : ℕ) (chains : List Chain) → count ≤ more → AreWithin count chains → AreWithin more chains
within_more count more [] up within = tt
within_more count more (chain ∷ chains) up within = ((within.0.0, omega arith), within_more count more chains up within.1)

pub within_and_one : (count : ℕ) (chains : List Chain) (read : Chain) → AreWithin count chains → read.first ≤ read.last
    → read.last ≤ count → AreWithin count (chains ++ read ∷ [])
within_and_one count [] read within up last = ((up, last), tt)
within_and_one count (chain ∷ chains) read within up last = (within.0, within_and_one count chains read within.1 up last)

-- a chain that was read with its subtables stands behind the others
pub option_map-one_chain : (olds news : List SubtableParts) (chains : List Chain) (start : List ℕ) (read : Chain) → AreWithin (length olds) chains
    → is_whole_chain start ≡ true
    → option_map (λ others. olds ++ others) (subtables_in (number_or_0 start 12) (number_or_0 start 4 - subtables_start start) (drop (subtables_start start) start)) ≡ Some news
    → read.default_flags ≡ number_or_0 start 0 → read.features.now ≡ take (12 * number_or_0 start 8) (drop 16 start)
    → read.first ≡ length olds → read.last ≡ length news
    → option_map (λ chain. map (read_chain olds) chains ++ chain ∷ []) (first_chain start) ≡ Some (map (read_chain news) (chains ++ read ∷ []))
option_map-one_chain olds news chains start read within whole subtables flags features first last =
    rw whole (with_subtables (subtables_in (number_or_0 start 12) (number_or_0 start 4 - subtables_start start) (drop (subtables_start start) start)) subtables)
  where
    with_subtables : (found : Option (List SubtableParts)) → option_map (λ others. olds ++ others) found ≡ Some news
        → option_map (λ chain. map (read_chain olds) chains ++ chain ∷ []) (option_map (λ subtables. record {
          default_flags = number_or_0 start 0;
          features = take (12 * number_or_0 start 8) (drop 16 start);
          subtables = subtables;
        }) found) ≡ Some (map (read_chain news) (chains ++ read ∷ []))
    with_subtables None is = absurd (none-some _ is)
    with_subtables (Some xs) is =
        let news_are : news ≡ olds ++ xs = sym (ap (λ found. unwrap_or found news) is) in
        let slice : slice_range news read.first read.last ≡ xs = rw (first, last, news_are) (slice_range-last olds xs) in
        ap Some (sym (map-append (read_chain news) chains (read ∷ [])
        ∙ rw (flags, features, slice, news_are, map-same_chains olds xs chains within) refl))

-- what is read stands behind what was read
pub grown : (olds news : List Subtable) (found : Option (List SubtableParts))
    → option_map (λ others. map parts_of olds ++ others) found ≡ Some (map parts_of news) → length olds ≤ length news
grown olds news None is = absurd (none-some _ is)
grown olds news (Some xs) is =
    let same : map parts_of olds ++ xs ≡ map parts_of news =
    ap (λ (found : Option (List SubtableParts)). unwrap_or found (map parts_of news)) is in
    let count : length olds + length xs ≡ length news =
    ap (λ n. n + length xs) (sym (length-map olds parts_of)) ∙ (sym (length-append (map parts_of olds) xs)
    ∙ (ap length same ∙ length-map news parts_of)) in
    omega arith

-- chains are being read: what was read stands before what the rest has, and is with it all that there is
pub record AreReading (read : Metamorphosis) (glyph_count : ℕ) (all rest : Option (List ChainParts)) : Type 0 where
  pub within : AreWithin (length read.subtables.items) read.chains.items
  pub chains : option_map (λ others. read_chains read.subtables.items read.chains.items ++ others) rest ≡ all
  pub glyphs : read.glyph_count ≡ glyph_count

-- a chain that is whole stands before the others
pub option_map-next_chain : (n : ℕ) (start : List ℕ) (olds news : List ChainParts)
    → option_map (λ chain. olds ++ chain ∷ []) (first_chain start) ≡ Some news
    → option_map (λ others. news ++ others) (chains_in n (drop (number_or_0 start 4) start))
    ≡ option_map (λ others. olds ++ others) (chains_in (suc n) start)
option_map-next_chain n start olds news is = before_others (first_chain start) (chains_in n (drop (number_or_0 start 4) start)) is
  where
    before_others : (found : Option ChainParts) (rest : Option (List ChainParts)) → option_map (λ chain. olds ++ chain ∷ []) found ≡ Some news
        → option_map (λ others. news ++ others) rest
        ≡ option_map (λ others. olds ++ others) (option_and_then (λ chain. option_map (λ others. chain ∷ others) rest) found)
    before_others None rest is = absurd (none-some _ is)
    before_others (Some chain) None is = refl
    before_others (Some chain) (Some others) is =
        let same : olds ++ chain ∷ [] ≡ news = ap (λ (found : Option (List ChainParts)). unwrap_or found news) is in
        ap Some (ap (λ xs. xs ++ others) (sym same) ∙ append_assoc olds (chain ∷ []) others)

pub chains_in-none_first : (n : ℕ) (start : List ℕ) → first_chain start ≡ None → chains_in (suc n) start ≡ None
chains_in-none_first n start none = rw none refl

pub chains_of-no_version : (table : List ℕ) → unwrap_or (number_16 table 0) 0 ≡ 0 → chains_of table ≡ []
chains_of-no_version table none = rw none refl

pub read_chains-all : (read : Metamorphosis) (glyph_count : ℕ) (table : List ℕ) (rest : List ℕ) → (unwrap_or (number_16 table 0) 0 ≡ 0 → ⊥)
    → AreReading read glyph_count (chains_in (number_or_0 table 4) (drop 8 table)) (chains_in 0 rest)
    → read_chains read.subtables.items read.chains.items ≡ chains_of table
read_chains-all read glyph_count table rest some reading =
    let version : nat_eq (unwrap_or (number_16 table 0) 0) 0 ≡ false = grind (arith, nat_tests) in
    let all : Some (read_chains read.subtables.items read.chains.items ++ []) ≡ chains_in (number_or_0 table 4) (drop 8 table) = reading.chains in
    rw version (sym (append-nil _) ∙ ap (λ (found : Option (List ChainParts)). unwrap_or found []) all)

if-same : (b : Bool) (xs : List ChainParts) → (if b then xs else xs) ≡ xs
if-same true xs = refl
if-same false xs = refl

pub chains_of-none : (table : List ℕ) → chains_in (number_or_0 table 4) (drop 8 table) ≡ None → chains_of table ≡ []
chains_of-none table none = rw none (if-same (nat_eq (unwrap_or (number_16 table 0) 0) 0) [])

pub option_map-nothing : (found : Option (List ChainParts)) → option_map (λ others. others) found ≡ found
option_map-nothing None = refl
option_map-nothing (Some others) = refl
