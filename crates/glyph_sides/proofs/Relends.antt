-- A slice is lent on under a new name. It keeps its length, so the old name ends as the new one's last list, cut or
-- filled up to that length.
use Rattle.std.proofs.Common.{◌≡◌, ℕ, List, [], ◌∷◌, length, refl, sym, ap, ◌∙◌, arith}
use Rattle.std.proofs.lemmas.Grind.{common_steps}
use seplogic.Ra.Ura.{Ura}
use mir.Syntax.{named}
use mir.Val.{Val}
use base.Logic.{SProp, ent, sep, ex, emp}
use base.Stored.{coded_list}
use base.Fml.{Lft, GName, Share, flft, fobs, fbor}
use types.Logic.{Logic, sem}
use types.Follow.{takes_part}
use types.Mut.{open_ref}
use types.SemTy.{cells, Arr, Body}
use types.Kit.{Item, ‵, ◌⊛◌, raw, some, later, ◌$◌, ◌∵◌, !, qed, move, keep, split3, fsplit, fsplit3, fjoin, fjoin3}
use types.Kit.{feq_l, feq_i, use1, await, pick, done, updating, group, now, show, rewrite}
use denote.Array.{Array}
use denote.Follow.{follows}
use denote.FollowSlice.{heres_id}
use denote.Memory.{mem}
use denote.Ref.{MutBor}
use denote.Slice.{MutSlice}
use denote.Steps.{nothing}
use Rattle.glyph_sides.specs.LendingLists.{refilled}
use Rattle.rb_glyph.specs.contracts.info.hb_glyph_info_t.{the_row as R}

same : (xs ws : List R.Denot) → length ws ≡ length xs → ws ≡ refilled xs ws
same xs ws e = grind (arith, common_steps)

module _ {M : Type 1} {𝓤 : Ura M} (𝓛 : Logic 𝓤) (κ : Lft) (q : Share) (r : MutBor (List R.Denot)) (vs : List Val) where
  open 𝓛 use {H, A}

  abbrev b : ℕ
  b = r.ref_ptr.0

  abbrev o : ℕ
  o = r.ref_ptr.1

  abbrev pub relent : GName → Item 𝓤
  relent δ = ‵ ((MutSlice (named 0) κ R).own_val (record r { ghost_name = δ }) vs) ⊛ ‵ (flft κ q) ⊛ ‵ (follows
      (Array R 0) (Array R 0) r.ghost_name δ (refilled r.now))

  abbrev pub Relent : GName → SProp 𝓤
  Relent δ = sep 𝓤 (sem 𝓛 ((MutSlice (named 0) κ R).own_val (record r { ghost_name = δ }) vs))
      (sep 𝓤 (A.lft κ q) (sem 𝓛 (follows (Array R 0) (Array R 0) r.ghost_name δ (refilled r.now))))

  put : (ws : List R.Denot) → ent 𝓤 (sep 𝓤 (sem 𝓛 ((Arr (mem R) (length r.now)).own_at ws b o)) (emp 𝓤))
      (sem 𝓛 ((Arr (mem R) (length r.now)).own_at (refilled r.now ws) b o))
  put ws = qed 𝓛 (‵ ((Arr (mem R) (length r.now)).own_at ws b o) ∷ raw (emp 𝓤) ∷ []) ∵ fsplit ! $ feq_l ! (λ e.
      rewrite ! 0 (λ (l : List R.Denot). ‵ (cells (mem R) l b o)) (same r.now ws e) refl $
      feq_i ! ℕ (length (refilled r.now ws)) (length r.now)
      (sym (ap length (same r.now ws e)) ∙ e) $ fjoin ! $ keep ! (0 ∷ []) $ done !)

  pub relends : ent 𝓤 (sep 𝓤 (sem 𝓛 ((MutSlice (named 0) κ R).own_val r vs)) (A.lft κ q)) (H.⇛ (ex 𝓤 Relent))
  relends = qed 𝓛 (‵ ((MutSlice (named 0) κ R).own_val r vs) ∷ ‵ (flft κ q) ∷ []) ∵ updating ! $ fsplit3 ! $ move ! (1
      ∷ 2 ∷ 3 ∷ []) $
      rewrite ! 0 (λ (l : List R.Denot). ‵ (fobs r.ghost_name ((coded_list R.coded).code l))) (heres_id R r.now)
      refl $ open_ref ! tt (Arr (mem R) (length r.now)) {b = b} {o = o} $
      nothing ! $ move ! (2 ∷ 3 ∷ 4 ∷ 1 ∷ 0 ∷ []) $ group ! 5 $
      use1 𝓛
      (later
      (some (λ (δ : GName). ‵ (fobs δ ((coded_list R.coded).code r.now)) ⊛ ‵ (fbor κ
      (Body (Arr (mem R) (length r.now)) b o δ)) ⊛ ‵ (flft κ q) ⊛ ‵ (follows (Array R 0) (Array R 0)
      r.ghost_name δ (refilled r.now)))))
      (takes_part 𝓛 (Arr (mem R) (length r.now)) (Arr (mem R) (length r.now)) (refilled r.now) κ q b o b o r.ghost_name
      (emp 𝓤) put ((coded_list R.coded).code r.now) ((coded_list R.coded).code r.now)
      r.now) $ await ! tt $ pick ! (λ δ. split3 ! $
      rewrite ! 0 (λ (l : List R.Denot). ‵ (fobs δ ((coded_list R.coded).code l))) (sym (heres_id R r.now)) refl $
      move ! (3 ∷ 0 ∷ 1 ∷ []) $ fjoin3 ! $ now ! $ show ! Relent δ $ done !)
