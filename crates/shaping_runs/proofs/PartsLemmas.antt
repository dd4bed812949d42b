-- Parts of a list: a part of a part is one, and what two parts of a list have in common.
use Rattle.std.proofs.Common.{◌≡◌, ◌+◌, ◌≤◌, Bool, true, false, List, [], ◌∷◌}
use Rattle.std.proofs.Common.{◌++◌, length, refl, sym, ap, ◌∙◌, subst, arith}
use Rattle.rb_glyph.specs.declared.info.hb_glyph_info_t.{hb_glyph_info_t}
use Rattle.shaping_runs.specs.Dropped.{picked, IsPart}

abbrev Glyphs : Type 0
Glyphs = List hb_glyph_info_t

length-picked : (bs : List Bool) (l : Glyphs) → length (picked bs l) ≤ length l
unfolding picked
length-picked [] l = omega arith
length-picked (b ∷ bs) [] = omega arith
length-picked (true ∷ bs) (g ∷ l) = omega (arith, length-picked bs l)
length-picked (false ∷ bs) (g ∷ l) = omega (arith, length-picked bs l)

picked_none : (bs : List Bool) → picked bs [] ≡ []
unfolding picked
picked_none [] = refl
picked_none (b ∷ bs) = refl

pub none : (l : Glyphs) → IsPart [] l
unfolding picked
none l = ([], refl)

behind_one : (g : hb_glyph_info_t) (l whole : Glyphs) → IsPart l whole → IsPart (g ∷ l) (g ∷ whole)
unfolding picked
behind_one g l whole p = (true ∷ p.0, ap (λ (x : Glyphs). g ∷ x) p.1)

past_one : (g : hb_glyph_info_t) (l whole : Glyphs) → IsPart l whole → IsPart l (g ∷ whole)
unfolding picked
past_one g l whole p = (false ∷ p.0, p.1)

pub all : (l : Glyphs) → IsPart l l
all [] = none []
all (g ∷ l) = behind_one g l l (all l)

pub behind : (front l whole : Glyphs) → IsPart l whole → IsPart (front ++ l) (front ++ whole)
behind [] l whole p = p
behind (g ∷ front) l whole p = behind_one g (front ++ l) (front ++ whole) (behind front l whole p)

pub past : (front l whole : Glyphs) → IsPart l whole → IsPart l (front ++ whole)
past [] l whole p = p
past (g ∷ front) l whole p = past_one g l (front ++ whole) (past front l whole p)

-- a part of a part
spread : List Bool → List Bool → List Bool
spread [] ms = []
spread (true ∷ bs) [] = []
spread (true ∷ bs) (m ∷ ms) = m ∷ spread bs ms
spread (false ∷ bs) ms = false ∷ spread bs ms

picked-spread : (bs ms : List Bool) (l : Glyphs) → picked (spread bs ms) l ≡ picked ms (picked bs l)
unfolding picked spread
picked-spread [] ms l = sym (picked_none ms)
picked-spread (true ∷ bs) [] l = refl
picked-spread (true ∷ bs) (m ∷ ms) [] = refl
picked-spread (true ∷ bs) (true ∷ ms) (g ∷ l) = ap (λ (x : Glyphs). g ∷ x) (picked-spread bs ms l)
picked-spread (true ∷ bs) (false ∷ ms) (g ∷ l) = picked-spread bs ms l
picked-spread (false ∷ bs) ms [] = sym (picked_none ms)
picked-spread (false ∷ bs) ms (g ∷ l) = picked-spread bs ms l

pub part_of_part : (l mid whole : Glyphs) → IsPart l mid → IsPart mid whole → IsPart l whole
part_of_part l mid whole p q =
    (spread q.0 p.0, picked-spread q.0 p.0 whole ∙ ap (picked p.0) q.1 ∙ p.1)

-- what two parts of a list have in common
pub record Common (a b l : Glyphs) : Type 0 where
  pub rest : Glyphs
  pub of_first : IsPart rest a
  pub of_second : IsPart rest b
  pub enough : length a + length b ≤ length rest + length l

common_picked : (cs bs : List Bool) (l : Glyphs) → Common (picked cs l) (picked bs l) l
unfolding picked
common_picked [] bs l = record {
  rest = [];
  of_first = none [];
  of_second = none (picked bs l);
  enough = omega (arith, length-picked bs l);
}
common_picked (c ∷ cs) [] l = record {
  rest = [];
  of_first = none (picked (c ∷ cs) l);
  of_second = none [];
  enough = omega (arith, length-picked (c ∷ cs) l);
}
common_picked (c ∷ cs) (b ∷ bs) [] = record { rest = []; of_first = none []; of_second = none []; enough = omega arith }
common_picked (true ∷ cs) (true ∷ bs) (g ∷ l) =
    let x = common_picked cs bs l in
    record {
      rest = g ∷ x.rest;
      of_first = behind_one g x.rest (picked cs l) x.of_first;
      of_second = behind_one g x.rest (picked bs l) x.of_second;
      enough = omega (arith, x.enough);
    }
common_picked (true ∷ cs) (false ∷ bs) (g ∷ l) =
    let x = common_picked cs bs l in
    record {
      rest = x.rest;
      of_first = past_one g x.rest (picked cs l) x.of_first;
      of_second = x.of_second;
      enough = omega (arith, x.enough);
    }
common_picked (false ∷ cs) (true ∷ bs) (g ∷ l) =
    let x = common_picked cs bs l in
    record {
      rest = x.rest;
      of_first = x.of_first;
      of_second = past_one g x.rest (picked bs l) x.of_second;
      enough = omega (arith, x.enough);
    }
common_picked (false ∷ cs) (false ∷ bs) (g ∷ l) =
    let x = common_picked cs bs l in
    record { rest = x.rest; of_first = x.of_first; of_second = x.of_second; enough = omega (arith, x.enough) }

pub common : (a b l : Glyphs) → IsPart a l → IsPart b l → Common a b l
common a b l p q =
    subst (λ (x : Glyphs). Common x b l) p.1 (subst (λ (x : Glyphs). Common (picked p.0 l) x l) q.1 (common_picked p.0 q.0 l))
