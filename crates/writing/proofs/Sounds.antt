-- The table of a lawful circuit, and what it gives the writer.
use Rattle.std.proofs.Common.{◌≡◌, ℕ, ◌^◌, ◌<◌, ◌≤◌, false, List, [], ◌∷◌, length, get_or, Some, sym, refl, ap, ◌∙◌, subst, ⊎_elim, arith}
use Rattle.std.specs.List.{slice_get}
use Rattle.std.specs.Option.{unwrap_or}
use Rattle.std.proofs.Math.ListN.{get_or-map}
use Rattle.std.proofs.lemmas.List.{get_or_past, length-map}
use Rattle.std.proofs.lemmas.Option.{unwrap_or-slice_get}
use Rattle.std.proofs.lemmas.Bool.{cases_lt}
use Rattle.circuits.specs.Circuits.{Meaning, Lawful, width}
use Rattle.circuits.specs.Tables.{tabled, makings_of, names_of}
use Rattle.circuits.specs.declared.making.Entry.{Entry}
use Rattle.circuits.specs.declared.making.Making.{Making}
use Rattle.circuits.specs.declared.making.Making.TheVariants.{Constant}
use Rattle.reading.specs.Texts.{blank_entry, entry_at, circuit_of}
use Rattle.reading.proofs.Laws.{Sound}
use Rattle.reading.proofs.Tabled.{lawful_sound}
use Rattle.writing.specs.Writes.{name_of, entries_of, table_of, head_text, written, ReadsBack}
use Rattle.writing.proofs.Lengths.{written_len}
use Rattle.writing.proofs.Round.{round}

makings_back : (ms : List Making) (ns : List ℕ) → length ns ≡ length ms → makings_of (entries_of ms ns) ≡ ms
makings_back [] ns e = refl
makings_back (m ∷ ms) [] e = absurd (omega arith)
makings_back (m ∷ ms) (n ∷ ns) e = ap (λ l. m ∷ l) (makings_back ms ns (omega arith))

names_back : (ms : List Making) (ns : List ℕ) → length ns ≡ length ms → names_of (entries_of ms ns) ≡ ns
names_back [] [] e = refl
names_back [] (n ∷ ns) e = absurd (omega arith)
names_back (m ∷ ms) [] e = absurd (omega arith)
names_back (m ∷ ms) (n ∷ ns) e = ap (λ l. n ∷ l) (names_back ms ns (omega arith))

module _ (m : Meaning) (l : Lawful m) where
  pub makings_are : makings_of (table_of m) ≡ m.makings
  makings_are = makings_back m.makings m.names l.named

  pub names_are : names_of (table_of m) ≡ m.names
  names_are = names_back m.makings m.names l.named

  pub table_length : length (table_of m) ≡ width m
  table_length = sym (length-map (table_of m) (λ (e : Entry). e.making)) ∙ ap length makings_are

  meant : tabled (table_of m) m.inputs m.outputs ≡ m
  meant =
      ap (λ x. record { makings = x; names = names_of (table_of m); inputs = m.inputs; outputs = m.outputs }) makings_are
      ∙ ap (λ x. record { makings = m.makings; names = x; inputs = m.inputs; outputs = m.outputs }) names_are

  pub sound : Sound (length (table_of m)) m.inputs m.outputs (table_of m)
  sound = lawful_sound (table_of m) m.inputs m.outputs (subst Lawful (sym meant) l)

  -- what a circuit answers is what its table has
  pub name_is : (k : ℕ) → unwrap_or (slice_get m.names k) 0 ≡ name_of (table_of m) k
  name_is k = unwrap_or-slice_get m.names k 0 ∙ ap (λ ns. get_or ns k 0) (sym names_are) ∙ get_or-map (λ (e : Entry). e.name) (table_of m) k blank_entry

  pub making_is : (k : ℕ) → unwrap_or (slice_get m.makings k) (Constant false) ≡ (entry_at (table_of m) k).making
  making_is k =
      unwrap_or-slice_get m.makings k (Constant false) ∙ ap (λ ms. get_or ms k (Constant false)) (sym makings_are)
      ∙ get_or-map (λ (e : Entry). e.making) (table_of m) k blank_entry

  names_small : (a : ℕ) → (entry_at (table_of m) a).name < 2 ^ 32
  names_small a =
      ⊎_elim
      (λ lt. omega (arith, sound.laws.named a lt, sound.most))
      (λ ge. subst (λ e. e.name < 2 ^ 32) (sym (get_or_past (table_of m) a blank_entry ge)) (omega arith))
      (cases_lt a (length (table_of m)))

  pub short : length (written m) ≤ 67108864
  short = written_len m.inputs m.outputs (table_of m) names_small sound.laws.enough sound.most (omega (arith, sound.most, sound.outputs_fit))

  pub reads_back : ReadsBack m
  reads_back =
      record {
        short = short;
        same = λ limit entries ranks kept e r. ap circuit_of (round m.inputs m.outputs (table_of m) sound limit entries ranks kept (omega (arith, table_length)) (omega (arith, table_length))) ∙ ap Some meant;
      }

pub heads : (w i o w' i' o' : ℕ) → w ≡ w' → i ≡ i' → o ≡ o' → head_text w i o ≡ head_text w' i' o'
heads w i o w' i' o' a b c = ap (λ x. head_text x i o) a ∙ ap (λ x. head_text w' x o) b ∙ ap (head_text w' i') c
