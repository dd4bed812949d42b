use Rattle.std.proofs.Common.{rules, sym, ◌∙◌, ap}
use Rattle.std.specs.Prelude.{Some}
use Rattle.rb_text.specs.LanguageTable.{tags_of_rows}
use Rattle.rb_text.proofs.TableRows.{tags_none, tags_some}
use Rattle.rb_text.proofs.language_table.LanguageTable.tags.Goals as goal

pub returns-then-not-is_same : goal.returns-then-not-is_same
returns-then-not-is_same c =
    let rows = c.rows_from-rows in
    let none = tags_none c.args.key.now rows.result.now _ c.in-len1-up.len_at_least rows.ensures.table
    rows.ensures.from (sym c.is_same.ensures ∙ c.if-not-is_same.true) in
    rw (← c.self.view_is) (sym none ∙ ap tags_of_rows rows.ensures.same)

pub returns : goal.returns
returns c =
    let rows = c.rows_from-rows in
    let some = tags_some c.args.key.now rows.result.now _ c.in-len1-up.len_at_least rows.ensures.table
    rows.ensures.from (sym c.is_same.ensures ∙ c.if-not-is_same.false) in
    rw (← c.self.view_is) (ap Some (search rules) ∙ sym some ∙ ap tags_of_rows rows.ensures.same)
