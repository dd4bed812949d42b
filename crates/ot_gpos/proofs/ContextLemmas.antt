-- The rule of a context that is found, and its records one after the other.
use Rattle.std.proofs.Common.{◌≡◌, ℕ, zero, suc, ◌+◌, ◌-◌, ◌≤◌, true, false, List, Option, Some, None, is_some}
use Rattle.std.proofs.Common.{refl, sym, ap, subst, ◌∙◌, arith}
use Rattle.std.specs.Prelude.{IfNone, IfSome}
use Rattle.std.proofs.lemmas.Bool.{false≢true}
use Rattle.rb_glyph.specs.declared.info.hb_glyph_info_t.{hb_glyph_info_t}
use Rattle.ot_lookups.specs.declared.lookup_list.Lookup.{Lookup}
use Rattle.ot_lookups.specs.declared.lookup_list.LookupList.{LookupList}
use Rattle.ot_contexts.specs.Context.{context_rule}
use Rattle.ot_contexts.specs.Pattern.{IsFitBy, Pattern}
use Rattle.ot_contexts.specs.declared.context.Fit.{Fit}
use Rattle.ot_layout.specs.declared.search.ApplyContext.{ApplyContext}
use Rattle.ot_layout.specs.declared.skipping_iterator.SkippingIterator.{SkippingIterator}
use Rattle.shaping_buffer.specs.State.{State}
use Rattle.ot_gpos.specs.Contexts.{Applies, AreDone, IsAround, IsDecided, IsFitDone, IsFound, IsRecordDone, ahead, record_done, target}
use Rattle.ot_attachments.specs.Flags.{break_marked, concat_marked}
use Rattle.ot_gpos.specs.Lookups.{Text, outcome, text_of}
use Rattle.ot_gpos.specs.declared.marks.LastBase.{LastBase}
use Rattle.ot_gpos.specs.Visit.{Visit}

-- ---- the rule

found_of : (ctx : ApplyContext) (rule : Option Pattern) (places : List ℕ) (found : Option Fit) → is_some found ≡ is_some rule
    → IfSome found (IsFitBy ctx rule places) → IsFound ctx rule places found
found_of ctx None places None same fits = refl
found_of ctx (Some p) places None same fits = absurd (false≢true same)
found_of ctx None places (Some fit) same fits = fits
found_of ctx (Some p) places (Some fit) same fits = fits

pub decided_by : (list : LookupList) (visit : Visit) (context : SkippingIterator) (gs : List hb_glyph_info_t) (ctx : ApplyContext)
    (places : List ℕ) (found : Option Fit)
    → is_some found ≡ is_some (context_rule list.coverages.items visit.subtable visit.index ctx)
    → IfSome found (IsFitBy ctx (context_rule list.coverages.items visit.subtable visit.index ctx) places)
    → IsAround visit context gs ctx → IsDecided list visit context gs places found
decided_by list visit context gs ctx places found same fits around = record {
  ctx = ctx;
  around = around;
  fits = found_of ctx (context_rule list.coverages.items visit.subtable visit.index ctx) places found same fits;
}

-- the same of glyphs and a walk, as they were read, and of an answer
pub decided_read : (list : LookupList) (visit : Visit) (context walk : SkippingIterator) (gs read : List hb_glyph_info_t)
    (places : List ℕ) (found result : Option Fit) → context ≡ walk → gs ≡ read → result ≡ found
    → IsDecided list visit context gs places result → IsDecided list visit walk read places found
decided_read list visit context walk gs read places found result same are is decided =
    subst (λ (w : SkippingIterator). IsDecided list visit w read places found) same
    (subst (λ (l : List hb_glyph_info_t). IsDecided list visit context l places found) are
    (subst (λ (f : Option Fit). IsDecided list visit context gs places f) is decided))

-- ---- one record

-- what is said of no answer
pub none_given : {X : Type 0} (o : Option X) (P : Type 0) → o ≡ None → IfNone o P → P
none_given None P is given = given
none_given (Some x) P is given = cc

module _ (applies : Applies) where
  pub record_none : (at : Option (Lookup × ℕ)) (old : Text) → at ≡ None → IsRecordDone applies at old old
  record_none at old is = subst (λ (o : Option (Lookup × ℕ)). IsRecordDone applies o old old) (sym is) refl

  pub record_some : (at : Option (Lookup × ℕ)) (lookup : Lookup) (place : ℕ) (old new : Text) → at ≡ Some (target lookup place)
      → applies lookup place old new → IsRecordDone applies at old new
  record_some at lookup place old new is comes =
      subst (λ (o : Option (Lookup × ℕ)). IsRecordDone applies o old new) (sym is) comes

  -- where no lookup does anything, no record does
  pub record_idle : (at : Option (Lookup × ℕ)) (old : Text)
      → ((lookup : Lookup) (place : ℕ) → applies lookup place old old) → IsRecordDone applies at old old
  record_idle None old stays = refl
  record_idle (Some at) old stays = stays at.0 at.1

-- ---- records in a row

module _ (done : ℕ → Text → Text → Type 0) where
  pub done_none : (old : Text) → AreDone done 0 old old
  unfolding AreDone
  done_none old = refl

  done_suc : (k : ℕ) (old mid new : Text) → AreDone done k old mid → done k mid new → AreDone done (suc k) old new
  unfolding AreDone
  done_suc k old mid new before last = record { mid = mid; before = before; last = last }

  pub done_next : (k : ℕ) (old mid new : Text) → AreDone done k old mid → done k mid new → AreDone done (k + 1) old new
  done_next k old mid new before last =
      let e : suc k ≡ k + 1 = omega arith in
      subst (λ (i : ℕ). AreDone done i old new) e (done_suc k old mid new before last)

  idle : (j k n : ℕ) (old mid : Text) → n ≡ k + j → AreDone done k old mid → ((i : ℕ) → done i mid mid) → AreDone done n old mid
  idle zero k n old mid e are stays =
      let here : k ≡ n = omega (arith, e) in
      subst (λ (i : ℕ). AreDone done i old mid) here are
  idle (suc j) k n old mid e are stays =
      idle j (suc k) n old mid (omega (arith, e)) (done_suc k old mid mid are (stays k)) stays

  -- the rest does nothing
  pub done_idle : (k n : ℕ) (old mid : Text) → k ≤ n → AreDone done k old mid → ((i : ℕ) → done i mid mid)
      → AreDone done n old mid
  done_idle k n old mid up are stays = idle (n - k) k n old mid (omega (arith, up)) are stays

-- ---- what comes of a rule

pub text_of-same : (s t : State) (last : LastBase) (left rest : ℕ) → t ≡ s → rest ≡ left → text_of t last rest ≡ text_of s last left
text_of-same s t last left rest same as_many =
    ap (λ (u : State). text_of u last rest) same ∙ ap (λ (n : ℕ). text_of s last n) as_many

-- flags of glyphs, where the places are added up elsewhere
pub concat_to : (from to end : ℕ) (s b : State) → b ≡ concat_marked from to s → to ≡ end → b ≡ concat_marked from end s
concat_to from to end s b is same = is ∙ ap (λ (n : ℕ). concat_marked from n s) same

pub break_to : (from to end : ℕ) (s b : State) → b ≡ break_marked from to s → to ≡ end → b ≡ break_marked from end s
break_to from to end s b is same = is ∙ ap (λ (n : ℕ). break_marked from n s) same

module _ (applies : Applies) (lookups : List Lookup) (place : ℕ) (places : List ℕ) (fit : Fit) where
  -- records are done at these places, counted from the glyph
  pub records_at : (at : ℕ) (read : List ℕ) (old start mid : Text) → at ≡ place → read ≡ places → start ≡ old
      → AreDone (record_done applies lookups fit.records.now at read) fit.record_count start mid
      → AreDone (record_done applies lookups fit.records.now place places) fit.record_count old mid
  records_at at read old start mid here same is are =
      subst (λ (k : ℕ). AreDone (record_done applies lookups fit.records.now k places) fit.record_count old mid) here
      (subst (λ (l : List ℕ). AreDone (record_done applies lookups fit.records.now at l) fit.record_count old mid) same
      (subst (λ (t : Text). AreDone (record_done applies lookups fit.records.now at read) fit.record_count t mid) is are))

  -- the lookup goes on behind the match
  pub fit_done : (old mid : Text) (b : State) (end beyond : ℕ)
      → AreDone (record_done applies lookups fit.records.now place places) fit.record_count
      (record old { buffer = break_marked fit.from (ahead place fit.to) old.buffer }) mid
      → b ≡ concat_marked end beyond mid.buffer → end ≡ ahead place fit.end → beyond ≡ ahead place fit.beyond
      → IsFitDone applies lookups place places fit old (outcome (record mid { buffer = b }) (Some end))
  fit_done old mid b end beyond records marked ends reaches = record {
    mid = mid;
    records = records;
    comes = ap (λ (s : State). outcome (record mid { buffer = s }) (Some end)) marked
        ∙ ap (λ (n : ℕ). outcome (record mid { buffer = concat_marked end n mid.buffer }) (Some end)) reaches
        ∙ ap
        (λ (n : ℕ). outcome (record mid { buffer = concat_marked n (ahead place fit.beyond) mid.buffer }) (Some n)) ends;
  }
