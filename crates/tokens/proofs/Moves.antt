-- What a cursor that moves keeps.
use Rattle.std.proofs.Common.{◌≡◌, ℕ, ◌+◌, ◌-◌, ◌≤◌, Bool, true, false, eqb, List, length, take, drop, Ok, Option, sym, ap, ◌∙◌, arith, length-drop}
use Rattle.std.specs.List.{prefix_len}
use Rattle.std.proofs.lemmas.List.{take_rest, drop-drop}
use Rattle.std.proofs.lemmas.List.Sums.{prefix_len-le-length}
use Rattle.tokens.specs.declared.cursor.Cursor.{Cursor}
use Rattle.tokens.specs.Places.{line_of}
use Rattle.tokens.specs.Cursors.{text_of, rest_of, Moved}
use Rattle.std.proofs.lemmas.Bool.{cond-true, cond-false, eq-eqb}
use Rattle.tokens.specs.Places.{blank}
use Rattle.tokens.specs.Numbers.{value_of}
use Rattle.tokens.specs.Tokens.{sorted, front, token_at, no_token}
use Rattle.tokens.proofs.Scan.{line_run, stand, next_at}

-- n bytes on is within the text, on the same line
pub record Onward (c : Cursor) (p : ℕ → Bool) (n : ℕ) : Type 0 where
  pub step : n ≡ prefix_len p (rest_of c)
  pub inside : c.at + n ≤ length (text_of c)
  pub same : c.line ≡ line_of (text_of c) (c.at + n)

pub onward : (c : Cursor) (p : ℕ → Bool) → ((b : ℕ) → p b ≡ true → eqb b 10 ≡ false) → (n : ℕ) → n ≡ prefix_len p (take (length (text_of c) - c.at) (rest_of c)) → Onward c p n
onward c p keeps n e =
    let run : n ≡ prefix_len p (rest_of c) = e ∙ ap (prefix_len p) (take_rest (text_of c) c.at) in
    record {
      step = run;
      inside = omega (arith, c.within, run, prefix_len-le-length p (rest_of c), length-drop c.at (text_of c));
      same = c.counted ∙ sym (line_run p keeps (text_of c) c.at) ∙ ap (λ k. line_of (text_of c) (c.at + k)) (sym run);
    }

module _ (c d : Cursor) (skipped : Moved c d (prefix_len blank (rest_of c))) where
  pub from_here : token_at (text_of c) c.at ≡ stand (text_of d) d.at (rest_of d)
  from_here =
      next_at (text_of c) c.at (rest_of c) ∙ ap (stand (text_of c) (c.at + prefix_len blank (rest_of c))) (drop-drop (prefix_len blank (rest_of c)) c.at (text_of c)) ∙ ap (λ k. stand (text_of c) k (drop k (text_of c))) (sym skipped.at) ∙ ap (λ r. stand r.now d.at (drop d.at r.now)) (sym skipped.text)

  pub none_here : (e : Cursor) (bs : List ℕ) → bs ≡ front (rest_of d) → length bs ≡ 0 → Moved d e (length bs) → no_token (text_of e) e.at (rest_of e) ≡ token_at (text_of c) c.at
  none_here e bs row empty moved =
      let stays : e.at ≡ d.at = omega (arith, moved.at) in
      ap (λ r. no_token r.now e.at (drop e.at r.now)) moved.text ∙ ap (λ k. no_token (text_of d) k (drop k (text_of d))) stays ∙ sym (cond-true _ _ _ (eq-eqb _ 0 (ap length (sym row) ∙ empty))) ∙ sym from_here

  pub one_here : (bs : List ℕ) → bs ≡ front (rest_of d) → eqb (length bs) 0 ≡ false → (o : Option ℕ) → o ≡ value_of bs → Ok (sorted o bs d.at) ≡ token_at (text_of c) c.at
  one_here bs row some o number =
      ap (λ n. Ok (sorted n bs d.at)) number ∙ ap (λ r. Ok (sorted (value_of r) r d.at)) row ∙ sym (cond-false _ _ _ (ap (λ r. eqb (length r) 0) (sym row) ∙ some)) ∙ sym from_here
