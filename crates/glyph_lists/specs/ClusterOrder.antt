-- The order in which the clusters of a list stand.
use Rattle.std.specs.Prelude.{Bool, true, false}
use Rattle.glyph_lists.specs.declared.cluster_order.ClusterOrder.{ClusterOrder}
use Rattle.glyph_lists.specs.declared.cluster_order.ClusterOrder.TheVariants.{Monotone, Any}

-- they may stand in any order
abbrev pub is_any : ClusterOrder → Bool
is_any Monotone = false
is_any Any = true
