-- The lists of a subtable of format 4.
use Rattle.std.proofs.Common.{◌≡◌, ℕ, ◌+◌, ◌*◌, List, drop, ap, ◌∙◌}
use Rattle.font_tables.proofs.ChunkLemmas.{number_16-drop}
use Rattle.font_tables.specs.Bytes.{number_16}
use Rattle.font_cmap.specs.Subtables.{number_of_list, segment_count, segment_end}

module _ (bs list : List ℕ) (start row : ℕ) (behind : list ≡ drop start bs) where
  number_16_behind : number_16 list (2 * row) ≡ number_16 bs (start + 2 * row)
  number_16_behind = rw behind (number_16-drop start (2 * row) bs)

  pub number_16_of_ends : start ≡ 14 → number_16 list (2 * row) ≡ segment_end bs row
  number_16_of_ends begins = number_16_behind ∙ ap (λ n. number_16 bs (n + 2 * row)) begins

  pub number_16_of_list : (k : ℕ) → start ≡ 16 + k * (2 * segment_count bs) → number_16 list (2 * row) ≡ number_of_list bs k row
  unfolding number_of_list
  number_16_of_list k begins = number_16_behind ∙ ap (λ n. number_16 bs (n + 2 * row)) begins
