-- What an accepted label leaves. Assumes nothing.
use Rattle.std.proofs.Common.{◌≡◌, ℕ, ◌+◌, ◌*◌, ◌<◌, ◌≤◌, true, false, ◌⊎◌, List, [], ◌∷◌, ◌++◌, length, get_or, set, replicate, Ok, sym, refl, ap, ◌∙◌, subst, inl, inr, arith, length-append, length-set, get_or-set_other, get_or-set_same}
use Rattle.std.proofs.lemmas.List.{length-replicate, get_or-replicate}
use Rattle.codec.specs.Fields.{zeros}
use Rattle.device.specs.State.{DevState, Sector, holds, unreadable}
use Rattle.device.specs.Actions.{force, effect, writes, zero_writes, run}
use Rattle.device.specs.Laws.{settled_after, after_all}
use Rattle.label.specs.declared.label.Label.{Label}
use Rattle.label.specs.Label.{label_bytes}
use Rattle.label.specs.Position.{position}
use Rattle.model.specs.Calls.{clearing, first_writes, label_actions}
use Rattle.journal.specs.Laws.{Labelled}
use Rattle.journal.proofs.Clearing.{first_in_a_row}
use Rattle.journal.proofs.Effects.{effect_joins, length_effect, writes_beside, writes_there, length_writes, settled_joins, all_ran}

module _ (L : Label) (d : DevState) (after-label : 1 ≤ L.start) (least : 16 ≤ L.count) (inside : L.start + L.count ≤ length d.contents)
    (first : List (List ℕ)) (two : length first ≡ 2) (in_row : first_writes L ≡ writes L.start first) (is : first ≡ clearing L L.count 0xFFFFFFFF) where
  -- the contents after the label's sector, after the zeros, and after the first record
  abbrev begun : List Sector
  begun = set d.contents 0 (holds (label_bytes L))

  abbrev blank : List (List ℕ)
  blank = replicate L.count (replicate 512 0)

  abbrev cleared : List Sector
  cleared = effect (writes L.start blank) begun

  abbrev made : List Sector
  made = effect (writes L.start first) cleared

  contents_made : effect (label_actions L) d.contents ≡ made
  contents_made =
      effect_joins (zero_writes L.start L.count) (first_writes L ++ (force ∷ [])) begun
      ∙ effect_joins (first_writes L) (force ∷ []) cleared
      ∙ ap (λ xs. effect xs cleared) in_row

  n_blank : length blank ≡ L.count
  n_blank = length-replicate L.count (replicate 512 0)

  as_many : length (label_actions L) ≡ L.count + 4
  as_many =
      omega (arith, length-append (zero_writes L.start L.count) (first_writes L ++ (force ∷ [])), length-append (first_writes L) (force ∷ []), ap length in_row, length_writes L.start first, two, length_writes L.start blank, n_blank)

  settled_made : settled_after (label_actions L) d.settled ≡ true
  settled_made = settled_joins (zero_writes L.start L.count) (first_writes L ++ (force ∷ [])) false
      ∙ settled_joins (first_writes L) (force ∷ []) (settled_after (zero_writes L.start L.count) false)

  n_begun : length begun ≡ length d.contents
  n_begun = length-set d.contents 0 (holds (label_bytes L))

  n_cleared : length cleared ≡ length d.contents
  n_cleared = length_effect (writes L.start blank) begun ∙ n_begun

  at_label : get_or made 0 unreadable ≡ holds (label_bytes L)
  at_label =
      writes_beside L.start first cleared 0 (inl (omega arith)) ∙ writes_beside L.start blank begun 0 (inl (omega arith))
      ∙ get_or-set_same d.contents 0 (holds (label_bytes L)) unreadable (omega arith)

  at_header : get_or made L.start unreadable ≡ holds (get_or (clearing L L.count 0xFFFFFFFF) 0 [])
  at_header =
      let e : L.start ≡ L.start + 0 = omega arith in
      ap (λ i. get_or made i unreadable) e ∙ writes_there L.start first cleared 0 (omega (arith, two)) (omega (arith, n_cleared, inside, least, two)) ∙ ap (λ k. holds (get_or k 0 [])) is

  at_op : get_or made (L.start + 1) unreadable ≡ holds (get_or (clearing L L.count 0xFFFFFFFF) 1 [])
  at_op = writes_there L.start first cleared 1 (omega (arith, two)) (omega (arith, n_cleared, inside, least, two)) ∙ ap (λ k. holds (get_or k 1 [])) is

  at_log : (i : ℕ) → 2 ≤ i → i < L.count → get_or made (L.start + i) unreadable ≡ holds (zeros 512)
  at_log i low high =
      writes_beside L.start first cleared (L.start + i) (inr (omega (arith, two)))
      ∙ writes_there L.start blank begun i (omega (arith, n_blank)) (omega (arith, n_blank, n_begun, inside))
      ∙ ap holds (get_or-replicate L.count i (replicate 512 0) [] high)

  at_home : (i : ℕ) → 1 ≤ i → (i < L.start) ⊎ (L.start + L.count ≤ i) → get_or made i unreadable ≡ get_or d.contents i unreadable
  at_home i some (inl l) =
      writes_beside L.start first cleared i (inl l) ∙ writes_beside L.start blank begun i (inl l) ∙ get_or-set_other d.contents 0 i (holds (label_bytes L)) unreadable (omega arith)
  at_home i some (inr l) =
      writes_beside L.start first cleared i (inr (omega (arith, least, two))) ∙ writes_beside L.start blank begun i (inr (omega (arith, n_blank)))
      ∙ get_or-set_other d.contents 0 i (holds (label_bytes L)) unreadable (omega arith)

  -- all of it at once, of the device that the actions left
  pub labelled_all : length (label_actions L) ≤ d.actions → Labelled L d (after_all (label_actions L) d)
  labelled_all enough = record {
    size = refl;
    label = ap (λ c. get_or c 0 unreadable) contents_made ∙ at_label;
    header = ap (λ c. get_or c L.start unreadable) contents_made ∙ at_header;
    op = ap (λ c. get_or c (L.start + 1) unreadable) contents_made ∙ at_op;
    log = λ i low high. ap (λ c. get_or c (L.start + i) unreadable) contents_made ∙ at_log i low high;
    home = λ i some aside. ap (λ c. get_or c i unreadable) contents_made ∙ at_home i some aside;
    spent = omega (arith, as_many, enough);
    settled = settled_made;
  }

-- an accepted run of label's actions makes the volume
pub made_by : (L : Label) (d e : DevState) → 1 ≤ L.start → 16 ≤ L.count → L.start + L.count ≤ d.size → length d.contents ≡ d.size →
    run (label_actions L) d ≡ record { answer = Ok tt; after = e } → Labelled L d e
made_by L d e a b c n h =
    let r = all_ran (label_actions L) d (ap (λ q. q.answer) h) in
    let one : 1 * L.count + 0 ≡ L.count = omega arith in
    let first = clearing L (position L 1 0) 0xFFFFFFFF in
    let first_is : first ≡ clearing L L.count 0xFFFFFFFF = ap (λ x. clearing L x 0xFFFFFFFF) one in
    subst (λ (x : DevState). Labelled L d x) (sym r.1 ∙ ap (λ q. q.after) h) (labelled_all L d a b (omega arith) first refl (first_in_a_row L b) first_is r.0)
