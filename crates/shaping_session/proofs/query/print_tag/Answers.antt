use Rattle.std.proofs.Common.{rules, ◌≡◌, ◌^◌, ◌-◌, ◌∙◌, [], false, string_bytes}
use Rattle.std.specs.Fmt.{padded_integral, format_spec}
use Rattle.shaping_session.specs.Queries.{hexadecimal}
use Rattle.shaping_session.proofs.QueryLemmas.{padded_integral-eight_digits}
use Rattle.shaping_session.proofs.query.print_tag.Goals as goal

pub returns : goal.returns
returns c =
    let told : string_bytes c.in_ok-format.field-0
    ≡ padded_integral (format_spec 32 0 4 8 (2 ^ 64 - 1)) false [] (hexadecimal c.args.tag) = search rules in
    told ∙ padded_integral-eight_digits c.args.tag
