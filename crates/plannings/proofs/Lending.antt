-- The front of a memory, lent to a planning.
use borrow.Rule.Slice.PartMut.{post_of, Post-is}
use Rattle.std.proofs.Common.{◌≡◌, ℕ, ◌-◌, ◌≤◌, List, ◌++◌, length, take, drop, ◌∙◌, subst, arith, drop_at}
use Rattle.std.proofs.lemmas.List.{length-take-le}

-- a part at the front that is lent leaves what lies past it
pub past_same : (k w : ℕ) (ys mem : List ℕ) → w ≡ k → w ≤ length mem → length ys ≡ length (take (w - 0) mem) → drop k (ys ++ post_of 0 (w - 0) mem) ≡ drop k mem
past_same k w ys mem e fits long =
    subst (λ k. drop k (ys ++ post_of 0 (w - 0) mem) ≡ drop k mem) e
    (let l : length ys ≡ w = omega (arith, length-take-le (w - 0) mem (omega arith)) in drop_at ys (post_of 0 (w - 0) mem) w l ∙ Post-is 0 w mem (omega arith))
