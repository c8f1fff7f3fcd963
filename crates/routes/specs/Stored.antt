-- A flow kept in five lists by rank: units that begin, that come from the first operand, from the second, that end, and that pass.
use Rattle.std.specs.Prelude.{◌≡◌, ℕ, ◌+◌, ◌-◌, ◌<◌, cond, List, length, ◌==◌, nat_lt, slice_index, slice_set}
use Rattle.circuits.specs.declared.making.Making.{Making}
use Rattle.circuits.specs.declared.making.Making.TheVariants.{Input, Constant, Copy, Inversion, Sum, Product}
use Rattle.routes.specs.Routes.{at, Takes}
use Rattle.routes.specs.Sums.{sum_of, ranks}
use Rattle.routes.specs.Flows.{Flow}
use Rattle.routes.specs.Paths.{more_at, less_at, more_along, less_along}

-- how many units come from v to a wire made so, of a from its first operand and b from its second
abbrev pub slots : Making → ℕ → ℕ → ℕ → ℕ
slots Input a b v = 0
slots (Constant k) a b v = 0
slots (Copy s) a b v = cond (v == s) a 0
slots (Inversion s) a b v = cond (v == s) a 0
slots (Sum s t) a b v = cond (v == s) a 0 + cond (v == t) b 0
slots (Product s t) a b v = 0

-- how many come from all
abbrev pub slots_total : Making → ℕ → ℕ → ℕ
slots_total Input a b = 0
slots_total (Constant k) a b = 0
slots_total (Copy s) a b = a
slots_total (Inversion s) a b = a
slots_total (Sum s t) a b = a + b
slots_total (Product s t) a b = 0

-- the units from wires of a rank below n
abbrev pub slots_below : Making → ℕ → ℕ → ℕ → ℕ
slots_below Input a b n = 0
slots_below (Constant k) a b n = 0
slots_below (Copy s) a b n = cond (nat_lt s n) a 0
slots_below (Inversion s) a b n = cond (nat_lt s n) a 0
slots_below (Sum s t) a b n = cond (nat_lt s n) a 0 + cond (nat_lt t n) b 0
slots_below (Product s t) a b n = 0

-- the units from single wires add up
abbrev pub SlotsAddUp : Type 0
SlotsAddUp =
    ((n : ℕ) (m : Making) (a b : ℕ) → sum_of (slots m a b) (ranks n) ≡ slots_below m a b n)
    × ((n : ℕ) (m : Making) → ((v : ℕ) → Takes m v → v < n) → (a b : ℕ) → slots_below m a b n ≡ slots_total m a b)

-- the five lists
pub record Store : Type 0 where
  pub starts : List ℕ
  pub firsts : List ℕ
  pub seconds : List ℕ
  pub finishes : List ℕ
  pub throughs : List ℕ

-- the flow that they hold
abbrev pub flow_of : List Making → Store → Flow
flow_of c s =
    record {
      start = λ w. slice_index s.starts w;
      along = λ v w. slots (at c w) (slice_index s.firsts w) (slice_index s.seconds w) v;
      finish = λ w. slice_index s.finishes w;
      through = λ w. slice_index s.throughs w;
    }

-- v is the first, or the second, operand that is passed on
abbrev pub First : Making → ℕ → Type 0
First Input v = ⊥
First (Constant k) v = ⊥
First (Copy s) v = v ≡ s
First (Inversion s) v = v ≡ s
First (Sum s t) v = v ≡ s
First (Product s t) v = ⊥

abbrev pub Second : Making → ℕ → Type 0
Second Input v = ⊥
Second (Constant k) v = ⊥
Second (Copy s) v = ⊥
Second (Inversion s) v = ⊥
Second (Sum s t) v = v ≡ t
Second (Product s t) v = ⊥

-- one number of a list one higher, or one lower
abbrev pub raised : List ℕ → ℕ → List ℕ
raised xs w = slice_set xs w (slice_index xs w + 1)

abbrev pub lowered : List ℕ → ℕ → List ℕ
lowered xs w = slice_set xs w (slice_index xs w - 1)

-- another list in the store
abbrev pub with_starts : List ℕ → Store → Store
with_starts xs s = record { starts = xs; firsts = s.firsts; seconds = s.seconds; finishes = s.finishes; throughs = s.throughs }

abbrev pub with_firsts : List ℕ → Store → Store
with_firsts xs s = record { starts = s.starts; firsts = xs; seconds = s.seconds; finishes = s.finishes; throughs = s.throughs }

abbrev pub with_seconds : List ℕ → Store → Store
with_seconds xs s = record { starts = s.starts; firsts = s.firsts; seconds = xs; finishes = s.finishes; throughs = s.throughs }

abbrev pub with_finishes : List ℕ → Store → Store
with_finishes xs s = record { starts = s.starts; firsts = s.firsts; seconds = s.seconds; finishes = xs; throughs = s.throughs }

abbrev pub with_throughs : List ℕ → Store → Store
with_throughs xs s = record { starts = s.starts; firsts = s.firsts; seconds = s.seconds; finishes = s.finishes; throughs = xs }

-- another part of the flow
abbrev pub with_start : (ℕ → ℕ) → Flow → Flow
with_start f x = record { start = f; along = x.along; finish = x.finish; through = x.through }

abbrev pub with_along : (ℕ → ℕ → ℕ) → Flow → Flow
with_along f x = record { start = x.start; along = f; finish = x.finish; through = x.through }

abbrev pub with_finish : (ℕ → ℕ) → Flow → Flow
with_finish f x = record { start = x.start; along = x.along; finish = f; through = x.through }

abbrev pub with_through : (ℕ → ℕ) → Flow → Flow
with_through f x = record { start = x.start; along = x.along; finish = x.finish; through = f }

-- one write to a list is one change of the flow: to the units that pass, that come from the first operand, from the second, that begin and that end
abbrev pub WritesAreChanges : Type 0
WritesAreChanges =
    ((c : List Making) (s : Store) (w : ℕ) → w < length s.throughs
    → flow_of c (with_throughs (raised s.throughs w) s) ≡ with_through (more_at w (flow_of c s).through) (flow_of c s))
    × ((c : List Making) (s : Store) (w : ℕ) → w < length s.throughs
    → flow_of c (with_throughs (lowered s.throughs w) s) ≡ with_through (less_at w (flow_of c s).through) (flow_of c s))
    × ((c : List Making) (s : Store) (v w : ℕ) → First (at c w) v → w < length s.firsts
    → flow_of c (with_firsts (raised s.firsts w) s) ≡ with_along (more_along v w (flow_of c s).along) (flow_of c s))
    × ((c : List Making) (s : Store) (v w : ℕ) → First (at c w) v → w < length s.firsts → 0 < slice_index s.firsts w
    → flow_of c (with_firsts (lowered s.firsts w) s) ≡ with_along (less_along v w (flow_of c s).along) (flow_of c s))
    × ((c : List Making) (s : Store) (v w : ℕ) → Second (at c w) v → w < length s.seconds
    → flow_of c (with_seconds (raised s.seconds w) s) ≡ with_along (more_along v w (flow_of c s).along) (flow_of c s))
    × ((c : List Making) (s : Store) (v w : ℕ) → Second (at c w) v → w < length s.seconds → 0 < slice_index s.seconds w
    → flow_of c (with_seconds (lowered s.seconds w) s) ≡ with_along (less_along v w (flow_of c s).along) (flow_of c s))
    × ((c : List Making) (s : Store) (w : ℕ) → w < length s.starts
    → flow_of c (with_starts (raised s.starts w) s) ≡ with_start (more_at w (flow_of c s).start) (flow_of c s))
    × ((c : List Making) (s : Store) (w : ℕ) → w < length s.finishes
    → flow_of c (with_finishes (raised s.finishes w) s) ≡ with_finish (more_at w (flow_of c s).finish) (flow_of c s))
