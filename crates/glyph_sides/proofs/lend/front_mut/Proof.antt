-- `front_mut` calls `start_mut`, and lends its slice on under a name that keeps the length. The borrow checker follows
-- one call, so this proof is by hand.
use Rattle.std.proofs.Common.{◌≡◌, length, take, List, [], ◌∷◌, refl, ap, w64, MutBor}
use Rattle.std.proofs.raw_atomic.Walks.{proved}
use Rattle.std.specs.Vec.{with_items_from}
use mir.Syntax.{named}
use mir.Val.{Val}
use base.Logic.{id⊢}
use base.Fml.{ftrue, flft}
use contract.Monad.{fact}
use contract.Running.{tables}
use types.Kit.{‵, raw, ◌⊛◌, some, later, ◌$◌, ◌∵◌, !, qed, done, move, keep, drop, use1, use2, split, split3, join}
use types.Kit.{fjoin, pick, await, rewrite, suffices, frame}
use types.Run.{enter, addr, stop, and_then, no_more, returns}
use types.ByLocal.{alloc_all, pass_all, free_all, look_at, get, through, sets, lands_as}
use denote.Array.{Array}
use denote.Builtin.{usize}
use denote.Exit.{no, yes}
use denote.Follow.{follows, follows_then}
use denote.Laws.{shows}
use denote.Plain.{uint_vals, uint_Tells}
use denote.Ref.{mut_vals, mut_Tells}
use denote.Signature.{plain, mut_ref_to}
use denote.Slice.{MutSlice, slice_val, mut_slice_vals}
use denote.Steps.{nothing, heard, peeks, only}
use denote.Triple.Call.{calls_at}
use denote.Triple.Clauses.{lasts}
use denote.Triple.Spec.{triple_of}
use denote.Triple.Table.{framed}
use denote.Triple.Walked.{says, Stays, stay_dropped, ends_at, Goes-dropped, Goes-spent_ref}
use Rattle.glyph_sides.specs.LendingLists.{refilled, glyphs_row as V}
use Rattle.rb_glyph.specs.contracts.info.hb_glyph_info_t.{the_row as R}
use Rattle.glyph_sides.specs.contracts.lend.front_mut as f
use Rattle.glyph_sides.specs.contracts.lend.start_mut as g
use Rattle.glyph_sides.proofs.Relends.{relent, relends}
use Rattle.glyph_sides.proofs.lend.start_mut.Met.{met}
use Rattle.glyph_sides.proofs.lend.front_mut.Statement.{statement}
use Rattle.glyph_sides.proofs.lend.front_mut.Code as code

abbrev stayed : Stays f.ended.signature.params f.ended.kept
stayed = (stay_dropped (mut_ref_to (0 ∷ []) tt (plain (λ _. V))) no, (stay_dropped (plain (λ _. usize)) yes, tt))

pub front_mut_spec : {M : Type 1} → statement M
front_mut_spec 𝓤 𝓛 𝓜 𝓡 wired =
    let c = f.clauses 𝓛 𝓜.mem 𝓡.returns in
    proved 𝓛 f.ended stayed c 𝓜 𝓡 (
      Goes-spent_ref 𝓛 1 (0 ∷ []) tt (plain (λ _. V)),
      (Goes-dropped 𝓛 1 (plain (λ _. usize)) yes (λ κs x f. refl), tt),
    )
    f.Key.name code.function (code.unfolded 𝓤 𝓛.H 𝓜 𝓡 wired)
    (λ κs. (mut_vals, (uint_vals w64, tt))) (λ κs. (mut_Tells (named 0) κs.0 V, (uint_Tells w64, tt)))
    (λ κs qs bounds a _ are.
    let κ = κs.0 in let q = qs.0 in let v = a.0.now in let n = a.1.0 in let γ = a.0.ghost_name in
    let G = triple_of 𝓛 g.signature (g.spec 𝓛 𝓜.mem 𝓡.returns) in
    let z : G.Ghost = ((κs, qs, bounds, a, (mut_vals a.0, (uint_vals w64 n, tt))), tt) in
    qed 𝓛 (raw (G.pre z) ∷ []) ∵ enter ! _ _ _ _ _ $
    alloc_all ! (λ l. pass_all ! refl ((tt, tt), ((tt, record { fits = are.1.0.1 }), tt)) $
    sets ! (addr ! (through ! refl (stop !))) refl (tt, tt) $
    calls_at ! (framed 𝓤 𝓛.H 𝓜 (tables 𝓤 𝓛.H 𝓜 𝓡 𝓡.env)) G
    (met 𝓤 𝓛 𝓜 𝓡 (code.calls-glyph_sides::lend::start_mut 𝓡.env wired)) z
    (and_then ! (get ! refl) (and_then ! (get ! refl) (no_more !))) (λ w.
    use1 𝓛
    (later (some (λ (r : MutBor (List R.Denot)).
    ((‵ (flft κ q) ⊛ ‵ ftrue) ⊛ ‵ ((MutSlice (named 0) κ R).own_val r (w ∷ []))) ⊛
    some (λ (ws : Unit {0} × (Unit {0} × Unit {0})). ‵ (lasts g.ended κs a ws) ⊛ ‵ (follows V (Array R 0) γ r.ghost_name
    (with_items_from v 0)) ⊛ raw (fact 𝓤 (r.now ≡ take n v.items)))))) (id⊢ 𝓤 _) $
    await ! tt $ pick ! (λ r. split ! $ split ! $ split ! $ move ! (2 ∷ []) $
    peeks ! (MutSlice (named 0) κ R) _ (shows 𝓛 (MutSlice (named 0) κ R)) r (w ∷ []) (λ is.
    rewrite ! 0 (λ (vs : List Val). ‵ ((MutSlice (named 0) κ R).own_val r vs)) is.0.0 refl $
    lands_as ! (ap only is.0.0) refl (tt, (tt, (record { fits = is.0.1.0 }, tt))) $
    -- [the slice; the token; nothing; what start_mut ensures]
    move ! (3 ∷ []) $ pick ! (λ ws. split ! $ drop ! $ split ! $ move ! (1 ∷ []) $ heard ! _ (λ now_is.
    move ! (1 ∷ 2 ∷ []) $ use2 𝓛 (later (some (relent 𝓛 κ q r (mut_slice_vals r))))
    (relends 𝓛 κ q r (mut_slice_vals r)) $ await ! tt $ pick ! (λ δ. split3 ! $
    -- [the slice under its new name; the token; it follows; and what it follows; nothing]
    move ! (3 ∷ 2 ∷ []) $ use2 𝓛 (‵ (follows V (Array R 0) γ δ (λ t. with_items_from v 0 (refilled r.now t))))
    (follows_then 𝓛 V (Array R 0) (Array R 0) (with_items_from v 0) (refilled r.now) γ r.ghost_name δ) $
    rewrite ! 0 (λ (l : List R.Denot). ‵ (follows V (Array R 0) γ δ (λ t. with_items_from v 0 (refilled l t)))) now_is
    refl $
    returns ! (look_at ! 0 refl) $ free_all ! refl $ keep ! (1 ∷ 2 ∷ 0 ∷ []) $
    suffices ! _ (ends_at 𝓛 f.ended stayed c ((κs, qs, bounds, a, (mut_vals a.0, (uint_vals w64 n, tt))), tt)
    (slice_val r.ref_ptr (length r.now)) (record r { ghost_name = δ }) (tt, (tt, tt)) (tt, (tt, tt))) $
    nothing ! $ nothing ! $ fjoin ! $ nothing ! $ fjoin ! $ join ! $ nothing ! $ move ! (2 ∷ 0
    ∷ []) $ join ! $ join ! $ frame ! $ says ! now_is $ done !))))))))
