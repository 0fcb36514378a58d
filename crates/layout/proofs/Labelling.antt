-- What label writes, in the words of lives. Assumes nothing.
use Rattle.std.proofs.Common.{◌≡◌, ℕ, ◌+◌, List, [], ◌∷◌, ◌++◌, sym, ap, ◌∙◌, arith, lit<}
use Rattle.std.proofs.lemmas.List.{append_assoc}
use Rattle.device.specs.Actions.{Action, write, force, zero_writes}
use Rattle.label.specs.declared.label.Label.{Label}
use Rattle.label.specs.Label.{label_bytes}
use Rattle.item.specs.Meaning.{Bank}
use Rattle.model.specs.Calls.{first_writes, label_actions}
use Rattle.life.specs.Format.{Fits}
use Rattle.life.specs.Calls as calls
use Rattle.life.specs.Calls.{Labels}
use Rattle.layout.specs.Real.{Usable}
use Rattle.layout.proofs.Ring.{ring, limited}
use Rattle.layout.proofs.Real.{real}
use Rattle.layout.proofs.Writes.{zeros_same}
use Rattle.layout.proofs.Clearing.{clearing_rec, is_clearing, clearing_writes}

module _ (L : Label) (n : ℕ) (bank : Bank) (u : Usable L n) where
  -- label acts
  pub label_acts : Labels (real L n bank u) (clearing_rec 0xFFFFFFFF)
  label_acts = record { clearing = is_clearing L n bank u 0xFFFFFFFF (lit< tt); last = omega (arith, (limited L n u).some) }

  -- the first record of a log can be written
  pub first_fits : Fits (ring L n u) (clearing_rec 0xFFFFFFFF) L.count L.count
  first_fits = record { small = label_acts.clearing.small; begun = omega arith; behind = omega arith; last = label_acts.last }

  -- and what label writes is what a life's does
  pub label_same : label_actions L ≡ calls.labels (real L n bank u) (clearing_rec 0xFFFFFFFF)
  label_same =
      let Z : List Action = calls.zero_writes (real L n bank u) 0 L.count in
      let R : List Action = calls.record_writes (real L n bank u) (clearing_rec 0xFFFFFFFF) L.count L.count in
      let s : L.start ≡ L.start + 0 = omega arith in
      let z : zero_writes L.start L.count ≡ Z = ap (λ i. zero_writes i L.count) s ∙ zeros_same L n bank u 0 L.count (omega arith) in
      let r : first_writes L ≡ R = clearing_writes L n bank u L.count 0xFFFFFFFF first_fits in
      ap (λ l. write 0 (label_bytes L) ∷ (l ++ (first_writes L ++ (force ∷ [])))) z
      ∙ ap (λ l. write 0 (label_bytes L) ∷ (Z ++ (l ++ (force ∷ [])))) r
      ∙ ap (λ l. write 0 (label_bytes L) ∷ l) (sym (append_assoc Z R (force ∷ [])))
