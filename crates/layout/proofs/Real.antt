-- The real layout is a format. Assumes nothing.
use Rattle.std.proofs.Common.{ℕ, refl}
use Rattle.label.specs.declared.label.Label.{Label}
use Rattle.label.specs.Label.{label_bytes}
use Rattle.item.specs.Meaning.{Bank}
use Rattle.model.specs.Lay.{blank}
use Rattle.life.specs.Format.{Format}
use Rattle.layout.specs.Read.{reads, pass, items}
use Rattle.layout.specs.Real.{Usable, sec, Real}
use Rattle.layout.proofs.Ring.{ring}
use Rattle.layout.proofs.Secs.{sec_whole, sec_pos, sec_sound, sec_len, sec_tail, sec_data, sec_one, blank_pos, zero_pos}
use Rattle.layout.proofs.More.{reads_more, pass_front}

abbrev pub real : (L : Label) (n : ℕ) → Bank → Usable L n → Format
real L n bank u = record {
  ring = ring L n u;
  label = label_bytes L;
  sec = sec L;
  sec_whole = λ r t p j f l. sec_whole L n u r t p f j l;
  sec_pos = λ r t p j f l. sec_pos L n u r t p f j l;
  sec_sound = λ r t p f. sec_sound L n u r t p f;
  sec_len = λ r t p f. sec_len L n u r t p f;
  sec_tail = λ r t p f. sec_tail L n u r t p f;
  sec_data = λ r t p j f l. sec_data L n u r t p f j l;
  sec_one = sec_one L n u;
  blank = blank L;
  blank_whole = λ x h l. refl;
  blank_pos = blank_pos L n u;
  zero_pos = zero_pos L;
  reads = reads n L bank;
  reads_more = reads_more n L bank;
  pass = pass n L bank;
  pass_front = pass_front n L bank;
  items = items bank;
}

pub is_real : (L : Label) (n : ℕ) (bank : Bank) (u : Usable L n) → Real L n bank (real L n bank u)
is_real L n bank u = record {
  sectors = refl;
  count = refl;
  window = refl;
  most = refl;
  slots = λ x. refl;
  positions = λ i s. refl;
  lengths = λ s. refl;
  tails = λ s. refl;
  sounds = λ x s. refl;
  label = refl;
  secs = λ r t p j. refl;
  blanks = λ x. refl;
  transactions = λ chain. refl;
  passes = λ chain. refl;
  meant = λ rs. refl;
}
