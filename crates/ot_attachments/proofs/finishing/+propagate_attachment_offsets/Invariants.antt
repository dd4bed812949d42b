use Rattle.ot_attachments.proofs.finishing.+propagate_attachment_offsets.Given as goal

abbrev pub decreases-propagate_attachment_offsets : goal.decreases-propagate_attachment_offsets
decreases-propagate_attachment_offsets l = l.levels
