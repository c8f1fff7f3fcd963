-- Rows as their type keeps them: the room that they have, and what one part after another leaves of them.
use Rattle.std.proofs.Common.{◌≡◌, ℕ, ◌<◌, List, subst, ap, ap₂, ◌∙◌}
use Rattle.rows.specs.declared.rows.Rows.{Rows}
use Rattle.rows.specs.declared.rows.View.{View}
use Rattle.rows.specs.Rows.{Room, SameRows, Only, row_of, written}
use Rattle.rows.specs.Held.{circuit_of, circuit_in}
use Rattle.rows.proofs.HeldCircuit.{circuit_same}

pub room_of : (s : Rows) → Room s.wires s.memory.now
room_of s = record { few = s.few; rows = s.rows }

pub room_seen : (s : View) → Room s.wires s.memory.now
room_seen s = record { few = s.few; rows = s.rows }

pub room_after : (s t : Rows) → SameRows s t → Room s.wires t.memory.now
room_after s t same = subst (λ n. Room n t.memory.now) same.wires (room_of t)

pub same_then : (s t u : Rows) → SameRows s t → SameRows t u → SameRows s u
same_then s t u a b = record { wires = b.wires ∙ a.wires; place = b.place ∙ a.place; long = b.long ∙ a.long }

-- a write to rows of which it is known how they came to be
pub written_next : (n : ℕ) (t : Rows) (x m : List ℕ) (r w k : ℕ) → t.wires ≡ n → t.memory.now ≡ m → x ≡ written t.memory.now t.wires r w k → x ≡ written m n r w k
written_next n t x m r w k same was e = e ∙ ap₂ (λ m' n'. written m' n' r w k) was same

-- what two parts leave alone
pub only_next : (R : ℕ → Type 0) (s t u : Rows) → SameRows s t → Only R s.wires s.memory.now t.memory.now → Only R t.wires t.memory.now u.memory.now → Only R s.wires s.memory.now u.memory.now
only_next R s t u same a b r off = subst (λ n. row_of u.memory.now n r ≡ row_of t.memory.now n r) same.wires (b r off) ∙ a r off

-- what one part leaves alone
module _ (R : ℕ → Type 0) (s t : Rows) (same : SameRows s t) (o : Only R s.wires s.memory.now t.memory.now) where
  pub row_kept : (r : ℕ) → (R r → ⊥) → row_of t.memory.now t.wires r ≡ row_of s.memory.now s.wires r
  row_kept r off = ap (λ n. row_of t.memory.now n r) same.wires ∙ o r off

  pub circuit_kept : ((r : ℕ) → r < 3 → R r → ⊥) → circuit_in t ≡ circuit_in s
  circuit_kept off = ap (circuit_of t.memory.now) same.wires ∙ circuit_same R s.wires s.memory.now t.memory.now off o
