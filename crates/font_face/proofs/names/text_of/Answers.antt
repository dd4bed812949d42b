use Rattle.std.proofs.Common.{ℕ, List, Bool, true, false, ◌≡◌, Some, None, sym, refl}
use Rattle.std.specs.Str.{IsUtf8, is_utf8}
use Rattle.std.proofs.lemmas.Str.{is_utf8-from_IsUtf8, IsUtf8-from_is_utf8}
use Rattle.font_face.specs.FaceNames.{text_of}
use Rattle.font_face.proofs.names.text_of.Goals as goal

text_of-is : (bytes : List ℕ) → IsUtf8 bytes → text_of bytes ≡ Some bytes
text_of-is bytes is = rw (is_utf8-from_IsUtf8 bytes is) refl

not_true : (b : Bool) → (b ≡ true → ⊥) → b ≡ false
not_true true not = absurd (not refl)
not_true false not = refl

text_of-not : (bytes : List ℕ) → (IsUtf8 bytes → ⊥) → text_of bytes ≡ None
text_of-not bytes not = rw (not_true (is_utf8 bytes) (λ is. not (IsUtf8-from_is_utf8 bytes is))) refl

pub returns-in-Ok : goal.returns-in-Ok
returns-in-Ok c = let is = text_of-is c.args.bytes.now c.in-Ok.ensures.cases.1 in cc (c.in-Ok.ensures.cases.0)

pub returns-in-Err : goal.returns-in-Err
returns-in-Err c = sym (text_of-not c.args.bytes.now c.in-Err.ensures.cases.0)
