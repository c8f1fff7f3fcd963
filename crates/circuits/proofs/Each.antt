-- A test of each element of a list and its place.
use Rattle.std.proofs.Common.{◌≡◌, ℕ, suc, ◌+◌, ◌<◌, Bool, true, false, List, [], ◌∷◌, length, get_or, sym, refl, subst, inl, inr, add-zero, zero-add, arith}
use Rattle.std.proofs.lemmas.Bool.{cases_Bool, both_ways, and_from}
use Rattle.circuits.specs.Tables.{each}
use Rattle.circuits.specs.TableLaws.{each_at}

each_from : {X : Type 0} (p : ℕ → X → Bool) (xs : List X) (k : ℕ) (d : X) → ((j : ℕ) → j < length xs → p (k + j) (get_or xs j d) ≡ true) → each p k xs ≡ true
each_from p [] k d h = refl
each_from p (x ∷ xs) k d h =
    and_from (p k x) (each p (k + 1) xs) (subst (λ i. p i x ≡ true) (add-zero k) (h 0 (omega arith)))
    (each_from p xs (k + 1) d (λ j l. let s : k + suc j ≡ k + 1 + j = omega arith in subst (λ i. p i (get_or xs j d) ≡ true) s (h (suc j) (omega arith))))

module _ {X : Type 0} (p : ℕ → X → Bool) (xs : List X) (d : X) where
  pub each_of : ((j : ℕ) → j < length xs → p j (get_or xs j d) ≡ true) → each p 0 xs ≡ true
  each_of h = each_from p xs 0 d (λ j l. subst (λ i. p i (get_or xs j d) ≡ true) (sym (zero-add j)) (h j l))

  -- what `all` answers over the elements with their places
  pub each_is : (r : Bool) → (r ≡ true → (k : ℕ) → k < length xs → p k (get_or xs k d) ≡ true) → (r ≡ false → (k : ℕ) × (k < length xs) × (p k (get_or xs k d) ≡ false)) → r ≡ each p 0 xs
  each_is true passes fails = sym (each_of (passes refl))
  each_is false passes fails =
      let n = fails refl in
      elim (cases_Bool (each p 0 xs)) [ inl e ↦ absurd (both_ways (p n.0 (get_or xs n.0 d)) n.2 (each_at p xs n.0 d e n.1)) | inr e ↦ sym e ]
