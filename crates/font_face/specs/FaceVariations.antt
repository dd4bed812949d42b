-- What is kept of a font's tables of variations.
use Rattle.std.specs.Prelude.{ℕ, List, [], ◌≡◌, ◌*◌, take, drop, unwrap_or, option_map, codes, if◌then◌else◌}
use Rattle.font_tables.specs.Bytes.{number_16}
use Rattle.font_tables.specs.declared.directory.Tables.{Tables}
use Rattle.font_variations.specs.Axes.{is_whole, axes_from, axis_count, instance_count, instance_size}
use Rattle.font_variations.specs.SegmentMaps as segments
use Rattle.font_variations.specs.MetricsVariations.{metrics_table}
use Rattle.font_variations.specs.VariationStore.{gdef_store}
use Rattle.font_variations.specs.declared.axes.VariationAxes.{VariationAxes}
use Rattle.font_variations.specs.declared.segment_maps.AxisMaps.{AxisMaps}
use Rattle.font_face.specs.Tables.{table_in}
use Rattle.font_face.specs.declared.variations.FaceVariations.{FaceVariations}

-- the axes and the named instances of a table `fvar`; none where it does not hold all that it declares
pub record AreAxesOf (axes : VariationAxes) (fvar : List ℕ) : Type 0 where
  pub records : axes.axes.now ≡ (if is_whole fvar then take (20 * axis_count fvar) (axes_from fvar) else [])
  pub instances : axes.instances.now ≡ (if is_whole fvar then drop (20 * axis_count fvar) (axes_from fvar) else [])
  pub counted : axes.axis_count ≡ (if is_whole fvar then axis_count fvar else 0)
  pub named : axes.instance_count ≡ (if is_whole fvar then instance_count fvar else 0)
  pub sized : axes.instance_size ≡ (if is_whole fvar then instance_size fvar else 0)

-- the segment maps of a table `avar`
pub record AreMapsOf (maps : AxisMaps) (avar : List ℕ) : Type 0 where
  pub bytes : maps.maps.now ≡ (if segments.is_whole avar then drop 8 avar else [])
  pub counted : maps.count ≡ (if segments.is_whole avar then unwrap_or (number_16 avar 6) 0 else 0)

-- what is kept of variations is what the tables say, the deltas of lookups those of this table `GDEF`
pub record AreVariationsOf (variations : FaceVariations) (tables : Tables) (gdef : List ℕ) : Type 0 where
  pub axes : AreAxesOf variations.axes (table_in tables (codes "fvar"))
  pub maps : AreMapsOf variations.maps (table_in tables (codes "avar"))
  pub horizontal :
      option_map (λ metrics. metrics.table.now) variations.horizontal ≡ metrics_table (table_in tables (codes "HVAR"))
  pub vertical :
      option_map (λ metrics. metrics.table.now) variations.vertical ≡ metrics_table (table_in tables (codes "VVAR"))
  pub values : variations.values.table.now ≡ table_in tables (codes "MVAR")
  pub deltas : variations.store.table.now ≡ gdef_store gdef

-- all but the values that are chosen and their coordinates is the same
pub record DiffersInChoice (old new : FaceVariations) : Type 0 where
  pub axes : new.axes ≡ old.axes
  pub maps : new.maps ≡ old.maps
  pub horizontal : new.horizontal ≡ old.horizontal
  pub vertical : new.vertical ≡ old.vertical
  pub values : new.values ≡ old.values
  pub glyphs : new.glyphs ≡ old.glyphs
  pub outlines : new.outlines_2 ≡ old.outlines_2
  pub deltas : new.store ≡ old.store
  pub instance : new.instance ≡ old.instance
