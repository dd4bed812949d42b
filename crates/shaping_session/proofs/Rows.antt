-- Worked rows: lines, what they ask for, and how they are answered.
use Rattle.std.proofs.Common.{◌≡◌, [], ◌∷◌, Some, None, codes, refl}
use Rattle.std.specs.Fmt.{digits}
use Rattle.rb_common.specs.Tag.{tag_of}
use Rattle.shaping_session.specs.Commands.{request_in, request_named, command_in}
use Rattle.shaping_session.specs.Commands.{replace_glyphs, tags}
use Rattle.shaping_session.specs.Queries.{tags_text}

-- as many ids as the second number says
replaced : request_in (codes "replace_glyphs 1 2 7 8") ≡ Some (replace_glyphs 1 (7 ∷ 8 ∷ []))
unfolding request_named
replaced = refl

one_too_few : request_in (codes "replace_glyphs 1 2 7") ≡ None
unfolding request_named
one_too_few = refl

one_too_many : request_in (codes "replace_glyphs 1 1 7 8") ≡ None
unfolding request_named
one_too_many = refl

-- a dash for no language
asked : request_in (codes "tags Beng -") ≡ Some (tags (Some (tag_of (codes "Beng"))) None)
unfolding request_named command_in
asked = refl

-- the newest tag comes first
told : tags_text (Some (tag_of (codes "Beng"))) None ≡ codes "scripts 626e6733 626e6732 62656e67 languages"
unfolding digits
told = refl

-- letters of a language are made small
told_of_malayalam : tags_text (Some (tag_of (codes "Mlym"))) (Some (codes "ML"))
    ≡ codes "scripts 6d6c6d33 6d6c6d32 6d6c796d languages 4d414c20"
unfolding digits
told_of_malayalam = refl
