-- What is asked of a builder of plans, one after the other (HarfBuzz, `hb_ot_map_builder_t`).
use Rattle.std.specs.Prelude.{◌≡◌, ◌++◌, ◌||◌, ℕ, Bool, true, List, [], ◌∷◌, length, nat_eq, if◌then◌else◌}
use Rattle.rb_common.specs.Tag.{tag_of}
use Rattle.rb_common.specs.declared.tag.Tag.{Tag}
use Rattle.ot_map.specs.Pauses.{HasSameTables}
use Rattle.ot_map.specs.Requests.{AreInOrder, every_glyph, requested, with_request}
use Rattle.ot_map.specs.Tables.{lists_feature}
use Rattle.ot_map.specs.declared.builder.PlanBuilder.{PlanBuilder}
use Rattle.ot_map.specs.declared.plan.Pause.{Pause}
use Rattle.ot_map.specs.declared.plan.Pause.TheVariants.{Nothing}
use Rattle.ot_map.specs.declared.request.FeatureFlags.{FeatureFlags}
use Rattle.ot_map.specs.declared.request.FeatureRequest.{FeatureRequest}

-- a feature with its flags and a value (`add_feature`), or a pause that ends a stage of substitution (`add_gsub_pause`)
pub data Ask : Type 0 where
  Request : (tag : Tag) (flags : FeatureFlags) (value : ℕ) → Ask
  EndStage : (pause : Pause) → Ask

-- the tag with this name
abbrev pub named : List ℕ → Tag
named name = record { 0 = tag_of name }

-- a feature of every glyph (`enable_feature`)
abbrev pub enabled : FeatureFlags → Tag → Ask
enabled flags tag = Request tag (record flags { is_global = true }) 1

-- a feature that is turned off for every glyph (`disable_feature`)
abbrev pub disabled : Tag → Ask
disabled tag = Request tag every_glyph 0

-- a feature with this name and the value 1, of every glyph or not
abbrev pub of_some : FeatureFlags → Bool → List ℕ → Ask
of_some flags is_global name = Request (named name) (record flags { is_global = is_global }) 1

-- whether one of the tables that were chosen has a feature
abbrev pub has_feature : PlanBuilder → ℕ → Bool
has_feature builder tag =
    lists_feature builder.gsub.lists.features.now builder.gsub.system.now tag
    || lists_feature builder.gpos.lists.features.now builder.gpos.system.now tag

-- what a builder has collected
pub record Collected : Type 0 where
  pub requests : List FeatureRequest
  pub pauses : List Pause

abbrev pub collected : PlanBuilder → Collected
collected builder = record { requests = builder.requests.items; pauses = builder.pauses.items }

abbrev pub nothing_yet : Collected
nothing_yet = record { requests = []; pauses = [] }

-- a feature is applied in the stage behind the pauses so far; the null tag is passed over
abbrev pub with_ask : Ask → Collected → Collected
with_ask (Request tag flags value) c =
    if nat_eq tag.0 0 then c
    else record c { requests = with_request (requested tag flags value (length c.pauses)) c.requests }
with_ask (EndStage pause) c = record c { pauses = c.pauses ++ pause ∷ [] }

abbrev pub with_asks : List Ask → Collected → Collected
with_asks [] c = c
with_asks (ask ∷ asks) c = with_asks asks (with_ask ask c)

-- each of these in a stage of its own
abbrev pub in_stages : List Ask → List Ask
in_stages [] = []
in_stages (ask ∷ asks) = ask ∷ EndStage Nothing ∷ in_stages asks

-- all of this was asked of a builder, in this order
pub record Asks (asks : List Ask) (old new : PlanBuilder) : Type 0 where
  pub tables : HasSameTables old new
  pub collects : AreInOrder old.requests.items → collected new ≡ with_asks asks (collected old)
