-- Bytes that are a text and bytes that are none; a name that is not a word.
use Rattle.std.proofs.Common.{ℕ, ◌≡◌, List, None, Bool, true, false, refl}
use Rattle.std.specs.Str.{is_utf8, IsUtf8, bytes_eq}
use Rattle.std.proofs.lemmas.Str.{is_utf8-from_IsUtf8, IsUtf8-from_is_utf8}
use Rattle.std.proofs.lemmas.Slice.Eq.{bytes_eq-Decides}
use Rattle.shaping_session.specs.Commands.{request_in, request_in_bytes}

pub request_in_bytes-text : (bytes : List ℕ) → IsUtf8 bytes → request_in_bytes bytes ≡ request_in bytes
request_in_bytes-text bytes h = rw (is_utf8-from_IsUtf8 bytes h) refl

pub request_in_bytes-no_text : (bytes : List ℕ) → ¬ IsUtf8 bytes → request_in_bytes bytes ≡ None
request_in_bytes-no_text bytes h = cases (is_utf8 bytes) refl
  where
    cases : (v : Bool) → is_utf8 bytes ≡ v → request_in_bytes bytes ≡ None
    cases true e = absurd (h (IsUtf8-from_is_utf8 bytes e))
    cases false e = rw e refl

pub bytes_eq-other : (name word : List ℕ) → ¬ (name ≡ word) → bytes_eq name word ≡ false
bytes_eq-other name word other = cases (bytes_eq name word) refl
  where
    cases : (v : Bool) → bytes_eq name word ≡ v → bytes_eq name word ≡ false
    cases true e = absurd (other ((bytes_eq-Decides name word).0 e))
    cases false e = e
