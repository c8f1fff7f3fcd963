-- What the first three lines say where they are accepted.
use Rattle.std.proofs.Common.{◌≡◌, ℕ, zero, suc, ◌+◌, ◌-◌, ◌≤◌, ◌&&◌, leb, List, length, take, Ok, ap, ◌∙◌, subst, arith}
use Rattle.std.proofs.lemmas.List.{length-take-le}
use Rattle.std.proofs.lemmas.Bool.{and_parts, leb-true}
use Rattle.tokens.specs.declared.header.Header.{Header}
use Rattle.tokens.specs.Lines.{number_at, end_at}
use Rattle.tokens.specs.Headers.{line_start, widths_at, sum_at, header_at}
use Rattle.tokens.proofs.Readings.{then_inv, ok_same, cond_inv}

pub widths_le : (text : List ℕ) (wires k sum at : ℕ) (p : ℕ × ℕ) → sum ≤ wires → widths_at text wires k sum at ≡ Ok p → p.0 ≤ wires
widths_le text wires zero sum at p le e = omega (arith, ap (λ q. q.0) (ok_same _ _ e))
widths_le text wires (suc k) sum at p le e =
    let a = then_inv (number_at text at) _ p e in
    let b = cond_inv _ _ _ p a.2 in
    let c = and_parts _ _ b.0 in
    widths_le text wires k (sum + a.0.0.value) a.0.1 p (leb-true _ _ c.1) b.1

pub sum_le : (text : List ℕ) (wires at : ℕ) (p : ℕ × ℕ) → sum_at text wires at ≡ Ok p → p.0 ≤ wires
sum_le text wires at p e =
    let a = then_inv (number_at text (line_start text at)) _ p e in
    let b = cond_inv (leb a.0.0.value 64) _ _ p a.2 in
    let c = then_inv (widths_at text wires a.0.0.value 0 a.0.1) _ p b.1 in
    let d = then_inv (end_at text c.0.1) _ p c.2 in
    let s : c.0.0 ≡ p.0 = ap (λ q. q.0) (ok_same _ _ d.2) in
    omega (arith, s, widths_le text wires a.0.0.value 0 a.0.1 c.0 (omega arith) c.1)

pub record Bounds (h : Header) : Type 0 where
  pub some : 1 ≤ h.wires
  pub most : h.wires ≤ 1048576
  pub inputs : h.inputs ≤ h.wires
  pub outputs : h.outputs ≤ h.wires

pub bounds : (text : List ℕ) (at : ℕ) (p : Header × ℕ) → header_at text at ≡ Ok p → Bounds p.0
bounds text at p e =
    let a = then_inv (number_at text (line_start text at)) _ p e in
    let b = then_inv (number_at text a.0.1) _ p a.2 in
    let c = cond_inv (leb 1 b.0.0.value && leb b.0.0.value 1048576) _ _ p b.2 in
    let w = and_parts _ _ c.0 in
    let d = then_inv (end_at text b.0.1) _ p c.1 in
    let i = then_inv (sum_at text b.0.0.value d.0.1) _ p d.2 in
    let o = then_inv (sum_at text b.0.0.value i.0.1) _ p i.2 in
    let same = ap (λ q. q.0) (ok_same _ _ o.2) in
    subst Bounds same (record { some = leb-true _ _ w.0; most = leb-true _ _ w.1; inputs = sum_le text b.0.0.value d.0.1 i.0 i.1; outputs = sum_le text b.0.0.value i.0.1 o.0 o.1 })

-- `&mut s[0..n]` as the checker reads it
pub front_length : {X : Type 0} (xs : List X) (n : ℕ) → n ≤ length xs → length (take (n - 0) xs) ≡ n
front_length xs n le = let e : n - 0 ≡ n = omega arith in ap (λ k. length (take k xs)) e ∙ length-take-le n xs le
