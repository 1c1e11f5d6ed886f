-- How a recursive type may hold itself through a `Box`: as one of its own values (Rattle's guide to unsafe code, "An owner of many values").
-- A `Box` is the value that it holds; the pointer and the allocator of std's box, the one field, are no part of it. For example
-- doubling what a box that is seen as 5 holds gives the box that is seen as 10.
use mathlib.Core.Path.{refl}
use mathlib.Core.Former.{Former, this, const, pair, via}
use base.Stored.{gnil}
use base.Fml.{ftrue}
use denote.RattleType.{RattleType}
use denote.Memory.{part_of}
use denote.RawPtr.{Ptr}
use denote.Sharing.{nothing}
use denote.HoleLaws.{Alike}
use denote.HolePlaces.{Recodes, struct_places, laid, one_value}
use denote.Hole.Fix.{over}
use denote.Param.Weighed.{Weighed}
use denote.Model.Placed.{view_places}
use Rattle.std.specs.declared.boxed.Box.{Box}
use Rattle.std.specs.contracts.boxed.Box as std_box
use Rattle.std.specs.declared.alloc.Global.{Global}
use Rattle.std.specs.contracts.alloc.Global as global
use Rattle.std.specs.contracts.impls.GlobalAllocator.TheImpl.{ghosts}
use Rattle.seqs.specs.declared.boxed.Box.TheInside.{Inside}
use Rattle.seqs.specs.declared.boxed.Box.TheView.{view, invariant}
use Rattle.seqs.specs.contracts.boxed.Box as own
use Rattle.seqs.specs.contracts.boxed.Box.TheInside as inside

abbrev pub the_former : Former {0} → Former {0}
the_former g = g

abbrev pub the_weighed : {g : Former {0}} → Weighed g → Weighed (the_former g)
the_weighed w = w

-- the fields: a pointer and an allocator, which hold none of the values, beside the value
abbrev fields : Former {0}
fields = via (pair (const (Ptr × Global)) this) Inside (λ X b. ((b.inner.ptr, b.inner.alloc), b.inner.value))
    (λ X p. record { inner = record { ptr = p.0.0; alloc = p.0.1; value = p.1 } }) (λ X b. refl) (λ X p. refl)

-- std's box of another value at the same place
abbrev holding : {X Y : Type 0} → Box X Global → Y → Box Y Global
holding b y = record { ptr = b.ptr; alloc = b.alloc; value = y }

abbrev row : RattleType → RattleType
row R = std_box.the_row R global.the_row ghosts

module _ (R S : RattleType) (h : R.Denot → S.Denot) where
  -- std's box depends on the type of its value by its layout and by what that value owns and lends
  inner_places : Alike R S h → Alike (row R) (row S) (λ b. holding b (h b.value))
  unfolding part_of
  inner_places alike = record {
    mir_same = λ i. (row (one_value R (alike.mir_same i) (λ _. ftrue) (λ _ _. nothing) gnil)).mir;
    own_same = λ b i. (row (one_value R (alike.mir_same i) (alike.own_same b.value i) (alike.shr_same b.value i) gnil)).own_val (holding b tt);
    shr_same = λ b i. (row (one_value R (alike.mir_same i) (alike.own_same b.value i) (alike.shr_same b.value i) gnil)).shr_at (holding b tt);
  }

  pub the_places : Alike R S h → Alike (own.the_row R) (own.the_row S) ((the_former this).map R.Denot S.Denot h)
  the_places alike = view_places fields this view (λ X Y k b. refl) (λ X b. refl) R.Denot S.Denot h (own.the_row R).coded (own.the_row S).coded
      (invariant R.Denot) (invariant S.Denot) (λ b p q. refl) (λ b p q. refl) (λ b e. tt) (λ b e. tt)
      (over (inside.the_row R)) (over (inside.the_row S))
      (struct_places (inside.the_type R) (inside.the_type S) ((λ b. holding b (h b.value)), tt) _ (λ b. refl) refl
      (laid _ _ _ (inner_places alike), tt))

  pub the_codes_placed : Recodes R S h → Recodes (own.the_row R) (own.the_row S) ((the_former this).map R.Denot S.Denot h)
  the_codes_placed recodes value = recodes value
