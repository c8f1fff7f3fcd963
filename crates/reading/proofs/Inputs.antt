-- The circuit's inputs in memory, and the ranks at the end.
use Rattle.std.proofs.Common.{◌≡◌, ℕ, zero, suc, ◌+◌, ◌<◌, ◌≤◌, true, false, ltb, List, [], ◌∷◌, ◌++◌, length, get_or, take, set, replicate, sym, refl, ap, ◌∙◌, subst, ⊎_elim, add-one, arith}
use Rattle.std.proofs.lemmas.List.{take_more_set, length_push, length-replicate, get_or-replicate, get_or_push, get_or_append_left, take_all, ext_get_or}
use Rattle.std.proofs.lemmas.Bool.{both_ways, cases_Bool, cases_eq}
use Rattle.circuits.specs.declared.making.Entry.{Entry}
use Rattle.circuits.specs.declared.making.Making.TheVariants as making
use Rattle.reading.specs.Texts.{rank, made, inputs, ranks_of}
use Rattle.reading.specs.Holds.{many, Held, Keeps}
use Rattle.reading.proofs.Held.{elsewhere, many_lt}

pub many_none : (k : ℕ) → many [] k ≡ 0
many_none zero = refl
many_none (suc k) = ap (λ n. n + 0) (many_none k)

pub keeps_none : (table : List Entry) (ranks : List ℕ) (wires : ℕ) → length table ≡ wires → (was : List ℕ) → length was ≡ wires → ranks ≡ replicate (length was) wires → Keeps 0 table ranks
keeps_none table ranks wires rows was names filled =
    let full : ranks ≡ replicate wires wires = filled ∙ ap (λ k. replicate k wires) names in
    record {
      room = omega arith;
      held = record {
        rows = refl;
        names = ap length full ∙ length-replicate wires wires ∙ sym rows;
        front = refl;
        known = λ n lt y. absurd (both_ways (ltb 0 0) refl y);
        others = λ n lt f. ap (λ l. get_or l n 0) full ∙ get_or-replicate wires n wires 0 (omega arith) ∙ sym rows;
        below = λ n y. absurd (both_ways (ltb 0 0) refl y);
        all = many_none (length table);
      };
    }

abbrev pub input : ℕ → Entry
input k = record { making = making.Input; name = k }

pub inputs_unmade : (k n : ℕ) → k ≤ n → made (inputs k) n ≡ false
inputs_unmade zero n le = refl
inputs_unmade (suc k) n le = elsewhere (inputs k) (input k) (inputs_unmade k k (omega arith)) n (λ e. omega arith) ∙ inputs_unmade k n (omega arith)

-- one more input stands in the table
pub input_more : (k n : ℕ) (table table' : List Entry) → k ≡ n → k < length table → take k table ≡ inputs k → table' ≡ set table k (input n) → take (k + 1) table' ≡ inputs (k + 1)
input_more k n table table' same lt front a = ap (take (k + 1)) a ∙ take_more_set table k (input n) lt ∙ ap (λ l. l ++ input n ∷ []) front ∙ ap (λ m. inputs k ++ input m ∷ []) (sym same) ∙ ap inputs (sym (add-one k))

pub ranks_length : (es : List Entry) (k : ℕ) → length (ranks_of es k) ≡ k
ranks_length es zero = refl
ranks_length es (suc k) = length_push (ranks_of es k) (rank es k) ∙ ap (λ n. n + 1) (ranks_length es k) ∙ add-one k

pub ranks_get : (es : List Entry) (k n : ℕ) → n < k → get_or (ranks_of es k) n 0 ≡ rank es n
ranks_get es zero n lt = absurd (omega arith)
ranks_get es (suc k) n lt =
    ⊎_elim
    (λ e. get_or_push (ranks_of es k) (rank es k) 0 n (ranks_length es k ∙ sym e) ∙ ap (rank es) (sym e))
    (λ ne. get_or_append_left (ranks_of es k) (rank es k ∷ []) 0 n (omega (arith, ranks_length es k)) ∙ ranks_get es k n (omega arith))
    (cases_eq n k)

-- where every wire is made, the ranks are those of all names
pub ranks_all : (k : ℕ) (table : List Entry) (ranks : List ℕ) → Keeps k table ranks → k ≡ length table → ranks ≡ ranks_of table (length table)
ranks_all k table ranks keeps e =
    let whole : take k table ≡ table = take_all k table (omega arith) in
    let held : Held (length table) table table ranks = subst (λ es. Held (length table) es table ranks) whole keeps.held in
    let every : (n : ℕ) → n < length table → made table n ≡ true =
    λ n lt. ⊎_elim (λ y. y) (λ f. absurd (omega (arith, held.all, many_lt table n f (length table) lt))) (cases_Bool (made table n)) in
    ext_get_or 0 ranks (ranks_of table (length table)) (held.names ∙ sym (ranks_length table (length table))) (λ n lt. let lt' : n < length table = omega (arith, held.names) in held.known n lt' (every n lt') ∙ sym (ranks_get table (length table) n lt'))
