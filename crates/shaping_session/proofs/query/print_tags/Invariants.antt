use Rattle.std.proofs.Common.{◌≡◌, string_bytes, take, map}
use Rattle.shaping_session.specs.Queries.{spaced_tags}
use Rattle.shaping_session.proofs.query.print_tags.Given as goal

abbrev pub invariant-loop-tag : goal.invariant-loop-tag
invariant-loop-tag l = string_bytes l.text ≡ spaced_tags (map (λ tag. tag.0) (take l.tag-index l.tags))
