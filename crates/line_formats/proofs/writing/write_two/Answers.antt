use Rattle.std.proofs.Common.{◌++◌}
use Rattle.line_formats.proofs.JsonLemmas.{member-more}
use Rattle.line_formats.proofs.writing.write_two.Goals as goal

pub returns : goal.returns
returns g c =
    member-more c.args.text.now.items _ _ (c.args.name.now ++ g.I.Integer.text c.args.number) c.args.other_name.now
    (g.I.Integer.text c.args.other) c.in_ok-write_member.ensures c.in_ok-write_member-2.ensures
