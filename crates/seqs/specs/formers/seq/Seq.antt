-- How a recursive type may hold itself through a `Seq`: as a list of its own values (Rattle's guide to unsafe code, "An owner of many values").
-- A `Seq` is split into the items that it holds and no more, as `Vec`, the one field, is. For example the items of a `Seq` that
-- is seen as 5 ∷ 7 ∷ [] are 5 and 7, in this order, and doubling each gives the one that is seen as 10 ∷ 14 ∷ [].
use mathlib.Core.Path.{◌≡◌, refl, sym}
use mathlib.Core.List.{List, []}
use mathlib.Core.Former.{Former, this, list, via, children}
use base.Stored.{code_map}
use denote.RattleType.{RattleType}
use denote.HoleLaws.{Alike}
use denote.HolePlaces.{Recodes, struct_places, laid}
use denote.Hole.Carrier.{listed, list-listed}
use denote.Hole.Fix.{over}
use denote.Param.Weighed.{Weighed, w_list}
use denote.Model.Placed.{view_places}
use Rattle.std.specs.formers.vec.Vec as vec
use Rattle.std.specs.declared.alloc.Global.{Global}
use Rattle.std.specs.contracts.alloc.Global as global
use Rattle.std.specs.contracts.impls.GlobalAllocator.TheImpl.{ghosts}
use Rattle.seqs.specs.declared.seq.Seq.TheInside.{Inside}
use Rattle.seqs.specs.declared.seq.Seq.TheView.{view, invariant}
use Rattle.seqs.specs.contracts.seq.Seq as seq
use Rattle.seqs.specs.contracts.seq.Seq.TheInside as inside

abbrev pub the_former : Former {0} → Former {0}
the_former g = list g

abbrev pub the_weighed : {g : Former {0}} → Weighed g → Weighed (the_former g)
the_weighed w = w_list w

pub the_empty : List ⊥
the_empty = []

abbrev pub the_items : (X : Type 0) → List X → List X
the_items X items = items

pub the_items_listed : (X : Type 0) (items : List X) → listed _ (children (the_former this) X items) ≡ the_items X items
the_items_listed X items = list-listed X items

-- the fields: one `Vec` of the items
abbrev fields : Former {0}
fields = via (vec.the_former this Global) Inside (λ X it. it.items) (λ X v. record { items = v }) (λ X it. refl) (λ X v. refl)

module _ (R S : RattleType) (h : R.Denot → S.Denot) where
  pub the_places : Alike R S h → Alike (seq.the_row R) (seq.the_row S) ((the_former this).map R.Denot S.Denot h)
  the_places alike = view_places fields (list this) view (λ X Y k it. refl) (λ X it. refl) R.Denot S.Denot h (seq.the_row R).coded (seq.the_row S).coded
      (invariant R.Denot) (invariant S.Denot) (λ it p q. refl) (λ it p q. refl) (λ it e. tt) (λ it e. tt)
      (over (inside.the_row R)) (over (inside.the_row S))
      (struct_places (inside.the_type R) (inside.the_type S) (vec.mapped h, tt) _ (λ it. refl) refl
      (laid _ _ _ (vec.the_places global.the_row ghosts R S h alike), tt))

  pub the_codes_placed : Recodes R S h → Recodes (seq.the_row R) (seq.the_row S) ((the_former this).map R.Denot S.Denot h)
  the_codes_placed recodes items = sym (code_map R.coded.code S.coded.code h (λ x. sym (recodes x)) items)
