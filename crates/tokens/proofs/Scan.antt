-- Laws of rows of bytes, and of `next_token`.
use Rattle.std.proofs.Common.{◌≡◌, ℕ, suc, ◌+◌, ◌≤◌, Bool, true, false, cond, eqb, List, [], ◌∷◌, ◌++◌, length, take, drop, Ok, Result, sym, refl, ap, ◌∙◌, count_by, ⊎_elim, add-zero, one-add, arith, take-add, length-drop}
use Rattle.std.specs.List.{prefix_len}
use Rattle.std.proofs.lemmas.List.{length-take-le, drop-drop}
use Rattle.std.proofs.lemmas.Bool.{cases_Bool, cond-true, cond-false, eq-eqb, ne_eqb}
use Rattle.std.proofs.lemmas.Bool.Decides.{nat_tests}
use Rattle.std.proofs.lemmas.List.Recursion.{is_count_by}
use Rattle.tokens.specs.Places.{visible, blank, ends, line_of}
use Rattle.tokens.specs.declared.fault.Fault.{Fault}
use Rattle.tokens.specs.Numbers.{value_of}
use Rattle.tokens.specs.Tokens.{Piece, sorted, front, next_token, no_token}

pub ends_count : (xs : List ℕ) → ends xs ≡ count_by (λ b. eqb b 10) xs
ends_count = is_count_by ends (λ b. eqb b 10) refl (λ x xs. refl)

pub ends_append : (xs ys : List ℕ) → ends (xs ++ ys) ≡ ends xs + ends ys
ends_append [] ys = omega arith
ends_append (x ∷ xs) ys = grind (arith, nat_tests, ends_append xs ys)

-- a row of bytes that end no line
pub ends_run : (p : ℕ → Bool) → ((b : ℕ) → p b ≡ true → eqb b 10 ≡ false) → (s : List ℕ) → ends (take (prefix_len p s) s) ≡ 0
ends_run p keeps [] = refl
ends_run p keeps (x ∷ xs) =
    ⊎_elim
    (λ y. let inner = keeps x y in rw (y, one-add, inner) (ends_run p keeps xs))
    (λ n. rw n)
    (cases_Bool (p x))

pub line_run : (p : ℕ → Bool) → ((b : ℕ) → p b ≡ true → eqb b 10 ≡ false) → (text : List ℕ) (at : ℕ) → line_of text (at + prefix_len p (drop at text)) ≡ line_of text at
line_run p keeps text at = rw take-add (omega (arith, ends_append (take at text) (take (prefix_len p (drop at text)) (drop at text)), ends_run p keeps (drop at text)))

pub visible_inside : (b : ℕ) → visible b ≡ true → eqb b 10 ≡ false
visible_inside b h = grind (arith, nat_tests)

pub blank_inside : (b : ℕ) → blank b ≡ true → eqb b 10 ≡ false
blank_inside b h = grind (arith, nat_tests)

-- what a reader that stands on no blank sees
abbrev pub stand : List ℕ → ℕ → List ℕ → Result Piece Fault
stand text at rest = cond (eqb (length (front rest)) 0) (no_token text at rest) (Ok (sorted (value_of (front rest)) (front rest) at))

first_at : (text : List ℕ) (at b : ℕ) (bs : List ℕ) → cond (visible b) (Ok (sorted (value_of (front (b ∷ bs))) (front (b ∷ bs)) at)) (no_token text at (b ∷ bs)) ≡ stand text at (b ∷ bs)
first_at text at b bs =
    ⊎_elim
    (λ y.
    let one : prefix_len visible (b ∷ bs) ≡ suc (prefix_len visible bs) = cond-true _ _ _ y ∙ one-add (prefix_len visible bs) in
    cond-true (visible b) _ _ y ∙ sym (cond-false _ _ _ (ap (λ n. eqb (length (take n (b ∷ bs))) 0) one ∙ ne_eqb (suc (length (take (prefix_len visible bs) bs))) 0 (λ e. omega arith))))
    (λ n.
    let none : prefix_len visible (b ∷ bs) ≡ 0 = cond-false _ _ _ n in
    cond-false (visible b) _ _ n ∙ sym (cond-true _ _ _ (ap (λ m. eqb (length (take m (b ∷ bs))) 0) none)))
    (cases_Bool (visible b))

pub next_at : (text : List ℕ) (at : ℕ) (rest : List ℕ) → next_token text at rest ≡ stand text (at + prefix_len blank rest) (drop (prefix_len blank rest) rest)
next_at text at [] = rw add-zero
next_at text at (b ∷ bs) =
    ⊎_elim
    (λ y.
    let one : prefix_len blank (b ∷ bs) ≡ suc (prefix_len blank bs) = cond-true _ _ _ y ∙ one-add (prefix_len blank bs) in
    let e : at + 1 + prefix_len blank bs ≡ at + suc (prefix_len blank bs) = omega arith in
    cond-true (blank b) _ _ y ∙ next_at text (at + 1) bs ∙ ap (λ n. stand text n (drop (prefix_len blank bs) bs)) e ∙ ap (λ n. stand text (at + n) (drop n (b ∷ bs))) (sym one))
    (λ n.
    let none : prefix_len blank (b ∷ bs) ≡ 0 = cond-false _ _ _ n in
    cond-false (blank b) _ _ n ∙ first_at text at b bs ∙ ap (λ m. stand text m (b ∷ bs)) (sym (add-zero at)) ∙ ap (λ m. stand text (at + m) (drop m (b ∷ bs))) (sym none))
    (cases_Bool (blank b))

pub ends_le : (xs : List ℕ) → ends xs ≤ length xs
ends_le [] = omega arith
ends_le (x ∷ xs) = grind (arith, nat_tests, ends_le xs)

pub line_le : (text : List ℕ) (at : ℕ) → at ≤ length text → line_of text at ≤ at + 1
line_le text at h = omega (arith, ends_le (take at text), length-take-le at text h)

pub ends_next : (text : List ℕ) (at n : ℕ) → line_of text (at + n) ≡ line_of text at + ends (take n (drop at text))
ends_next text at n = rw take-add (omega (arith, ends_append (take at text) (take n (drop at text))))

-- one byte on, which stands before the bytes that are left
module _ (text : List ℕ) (at b : ℕ) (more : List ℕ) (here : b ∷ more ≡ drop at text) where
  pub byte_left : more ≡ drop (at + 1) text
  byte_left = ap (drop 1) here ∙ drop-drop 1 at text

  pub byte_inside : at + 1 ≤ length text
  byte_inside = omega (arith, ap length here, length-drop at text)

  byte_ends : line_of text (at + 1) ≡ line_of text at + ends (b ∷ [])
  byte_ends = omega (arith, ends_next text at 1, ap (λ r. ends (take 1 r)) here)

  pub line_next : b ≡ 10 → line_of text (at + 1) ≡ line_of text at + 1
  line_next e =
      let one : ends (b ∷ []) ≡ 1 = cond-true _ _ _ (eq-eqb b 10 e) in
      omega (arith, byte_ends, one)

  pub line_same : (b ≡ 10 → ⊥) → line_of text (at + 1) ≡ line_of text at
  line_same ne =
      let none : ends (b ∷ []) ≡ 0 = cond-false _ _ _ (ne_eqb b 10 ne) in
      omega (arith, byte_ends, none)
