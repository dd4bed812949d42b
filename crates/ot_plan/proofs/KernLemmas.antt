-- What is asked of a table `kern` is told by its bytes.
use Rattle.std.proofs.Common.{◌≡◌, Bool, List, ℕ, ap, ◌∙◌}
use Rattle.ot_gpos_tables.specs.KernTable.{first_subtable, has_subtable, is_apple, some_subtable, subtable_count}
use Rattle.ot_gpos_tables.specs.declared.kern_table.KernTable.{KernTable}
use Rattle.ot_plan.specs.Decisions.{some_in}

pub has_subtable-read : (test : Bool → List ℕ → Bool) (kern : KernTable) (bytes : List ℕ) → kern.table.now ≡ bytes
    → kern.is_apple ≡ is_apple bytes → kern.count ≡ subtable_count bytes → has_subtable test kern ≡ some_in test bytes
has_subtable-read test kern bytes table form count =
    ap (λ (b : List ℕ). some_subtable test kern.count kern.is_apple b (first_subtable kern.is_apple)) table
    ∙ ap (λ (a : Bool). some_subtable test kern.count a bytes (first_subtable a)) form
    ∙ ap (λ (n : ℕ). some_subtable test n (is_apple bytes) bytes (first_subtable (is_apple bytes))) count
