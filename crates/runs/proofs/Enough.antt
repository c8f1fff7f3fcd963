-- Room that is taken off by each call in turn.
use Rattle.std.proofs.Common.{◌≡◌, ℕ, ◌-◌, ◌≤◌, leb, List, [], ◌∷◌, Some, None, Option, sym, ap, ◌∙◌, subst, ⊎_elim, Bor, Iter, arith}
use Rattle.std.proofs.lemmas.Bool.{cases_lt, le-leb, lt-leb}
use Rattle.std.proofs.lemmas.Fn.{fronts, slice_gives}
use denote.Param.Members.{Mut, Called}
use Rattle.std.specs.declared.ops.ControlFlow.{ControlFlow}
use Rattle.std.specs.declared.ops.ControlFlow.TheVariants.{Continue, Break}
use Rattle.std.specs.ControlFlow.{continue_value}
use Rattle.std.specs.Iterator.{AlwaysYields, Yields, TryFoldTurn, TryFoldsItems}
use Rattle.std.specs.List.{FoldsTo}
use Rattle.std.specs.Option.{SomeIff, MatchOption, is_some}
use Rattle.runs.specs.Events.{room_of}
use Rattle.runs.specs.Calls.{rooms}
use Rattle.runs.specs.declared.calls.Call.{Call}

module _ (S F E : Type 0) (steps : S → Option (Bor Call) → S → Type 0) (g : Mut F (ℕ × (Bor Call × Unit {0})) (Option ℕ)) (f : F)
    (takes : (k : ℕ) (x : Bor Call) (v : Option ℕ) (q : F) → Called g f (k, (x, tt)) v q → (q ≡ f) × SomeIff v (room_of x.now ≤ k) (k - room_of x.now)) where
  -- a turn that goes on, and how the turns end: with no call left, or at one that finds too little
  abbrev goes_on : Option ℕ → ControlFlow E ℕ → Type 0
  goes_on v m = v ≡ continue_value m

  abbrev Ended : Option ℕ → F → ℕ → Option (Bor Call) → Type 0
  Ended r q k o = MatchOption o (goes_on r (Continue k)) (λ x. (v : Option ℕ) × (h : F) × (e : E) × Called g q (k, (x, tt)) v h × goes_on v (Break e) × (r ≡ None))

  ended : (all : List Call) (s u : S) (k : ℕ) (r : Option ℕ) (o : Option (Bor Call)) → AlwaysYields steps (λ y. y.now) s all → steps s o u → Ended r f k o
      → is_some r ≡ leb (rooms all) k
  ended [] s u k r None y st e = ap is_some e ∙ sym (le-leb 0 k (omega arith))
  ended [] s u k r (Some x) y st e = absurd (y x u st)
  ended (c ∷ all) s u k r None y st e = absurd (y.0 u st)
  ended (c ∷ all) s u k r (Some x) y st e =
      let short : (room_of x.now ≤ k) → ⊥ = subst (λ v. SomeIff v (room_of x.now ≤ k) (k - room_of x.now)) e.4 (takes k x e.0 e.1 e.3).1 in
      let same : room_of x.now ≡ room_of c = ap room_of (y.1 x u st).0 in
      ap is_some e.5 ∙ sym (lt-leb (rooms (c ∷ all)) k (⊎_elim (λ l. omega (arith, l, same)) (λ l. absurd (short l)) (cases_lt k (room_of x.now))))

  enough_by_turns : (all : List Call) (s t u : S) (k b : ℕ) (r : Option ℕ) (xs : List (Bor Call)) (o : Option (Bor Call)) (q : F)
      → AlwaysYields steps (λ y. y.now) s all → Yields steps s xs t → steps t o u
      → FoldsTo {P = F × ℕ} (TryFoldTurn g goes_on) (f, k) xs (q, b) → Ended r q b o
      → is_some r ≡ leb (rooms all) k
  enough_by_turns all s t u k b r [] o q y w st turns e =
      ended all s u k r o y (subst (λ z. steps z o u) (sym w) st) (subst (λ p. Ended r p.0 p.1 o) (sym turns) e)
  enough_by_turns [] s t u k b r (x ∷ xs) o q y w st turns e = absurd (y x w.0 w.1)
  enough_by_turns (c ∷ all) s t u k b r (x ∷ xs) o q y w st turns e =
      let z = takes k x turns.1.0 turns.0.0 turns.1.1 in
      let m : (room_of x.now ≤ k) × (turns.0.1 ≡ k - room_of x.now) = subst (λ v. SomeIff v (room_of x.now ≤ k) (k - room_of x.now)) turns.1.2 z.1 in
      let h : (x.now ≡ c) × AlwaysYields steps (λ y. y.now) w.0 all = y.1 x w.0 w.1 in
      let same : room_of x.now ≡ room_of c = ap room_of h.0 in
      enough_by_turns all w.0 t u turns.0.1 b r xs o q h.1 w.2 st (subst (λ p. FoldsTo {P = F × ℕ} (TryFoldTurn g goes_on) (p, turns.0.1) xs (q, b)) z.0 turns.2) e
      ∙ ⊎_elim
      (λ l. lt-leb (rooms all) turns.0.1 l ∙ sym (lt-leb (rooms (c ∷ all)) k (omega (arith, l, m.0, m.1, same))))
      (λ l. le-leb (rooms all) turns.0.1 l ∙ sym (le-leb (rooms (c ∷ all)) k (omega (arith, l, m.0, m.1, same))))
      (cases_lt turns.0.1 (rooms all))

-- a `try_fold` over the calls, which takes off what each is lent, comes to its end exactly if that is enough
pub enough_from_try_fold : {F E : Type 0} (g : Mut F (ℕ × (Bor Call × Unit {0})) (Option ℕ)) (f : F) (s u : Iter Call) (k : ℕ) (r : Option ℕ)
    → TryFoldsItems fronts g (λ v (m : ControlFlow E ℕ). v ≡ continue_value m) (λ e r. r ≡ None) s f k r u
    → ((k : ℕ) (x : Bor Call) (v : Option ℕ) (q : F) → Called g f (k, (x, tt)) v q → (q ≡ f) × SomeIff v (room_of x.now ≤ k) (k - room_of x.now))
    → is_some r ≡ leb (rooms s.rest.now) k
enough_from_try_fold {F} {E} g f s u k r ran takes =
    enough_by_turns (Iter Call) F E fronts g f takes s.rest.now s ran.4.0 u k ran.3 r ran.0 ran.1 ran.2 (slice_gives s) ran.4.1 ran.4.2 ran.5 ran.6
