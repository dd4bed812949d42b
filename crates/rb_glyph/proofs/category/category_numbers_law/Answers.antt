use Rattle.rb_glyph.proofs.CategoryLemmas.{number_of_category}
use Rattle.rb_glyph.proofs.category.category_numbers_law.Goals as goal

pub returns-clause-forth : goal.returns-clause-forth
returns-clause-forth c = number_of_category
