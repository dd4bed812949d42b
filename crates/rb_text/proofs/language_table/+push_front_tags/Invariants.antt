use Rattle.std.proofs.Common.{length}
use Rattle.rb_text.proofs.language_table.+push_front_tags.Given as goal

abbrev pub decreases-push_front_tags : goal.decreases-push_front_tags
decreases-push_front_tags l = length l.rows.now
