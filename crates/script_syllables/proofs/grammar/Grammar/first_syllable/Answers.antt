use Rattle.std.proofs.Common.{ℕ, drop, ap, ◌∙◌}
use Rattle.script_syllables.specs.Item.{passed_count}
use Rattle.script_syllables.proofs.ItemLemmas.{passed_count-behind}
use Rattle.script_syllables.proofs.grammar.Grammar.first_syllable.Goals as goal

pub returns-clause-passed : goal.returns-clause-passed
returns-clause-passed c =
    ap (λ (n : ℕ). passed_count c.args.self.now.passes_over (drop n c.longest-found.new.infos)) c.behind_passed.ensures
    ∙ passed_count-behind c.args.self.now.passes_over c.longest-found.new.infos c.longest-found.result.length
