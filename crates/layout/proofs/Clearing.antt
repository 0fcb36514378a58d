-- The clearing record, as a record of a life. Assumes nothing.
use Rattle.std.proofs.Common.{◌≡◌, ℕ, ◌<◌, [], ◌∷◌, sym, refl, ap, ◌∙◌, arith, lit<, lit≤}
use Rattle.codec.specs.Fields.{zeros}
use Rattle.codec.proofs.Allbytes.{bytes_zeros}
use Rattle.label.specs.declared.label.Label.{Label}
use Rattle.record.specs.Record.{padded}
use Rattle.item.specs.Meaning.{Bank}
use Rattle.model.specs.Items.{empty_book}
use Rattle.model.specs.Calls.{clearing_op, clearing}
use Rattle.model.specs.Lay.{record_writes}
use Rattle.model.proofs.Sums.{bytes_op, bytes_padded}
use Rattle.life.specs.Format.{Rec, Small, Fits}
use Rattle.life.specs.Calls as calls
use Rattle.life.specs.Calls.{Clearing}
use Rattle.layout.specs.Read.{unread, progress}
use Rattle.layout.specs.Real.{Usable}
use Rattle.layout.proofs.Ring.{ring, limited}
use Rattle.layout.proofs.Real.{real}
use Rattle.layout.proofs.Writes.{packed_padded, record_same}

-- the record of one op with no effect
abbrev pub clearing_rec : ℕ → Rec
clearing_rec previous = record { previous = previous; ops = 1; more = 1; payload = padded clearing_op }

module _ (L : Label) (n : ℕ) (bank : Bank) (u : Usable L n) where
  -- it can be written
  pub clearing_small : (previous : ℕ) → previous < 4294967296 → Small (ring L n u) (clearing_rec previous)
  clearing_small previous low = record {
    previous_low = low;
    ops_low = lit< tt;
    some = lit≤ tt;
    most = omega (arith, (limited L n u).least);
    whole = refl;
    bytes = bytes_padded clearing_op (bytes_op 0 0xAA 0x20 (0x6E ∷ 0x55 ∷ zeros 6) (lit< tt) (lit< tt) (lit< tt, (lit< tt, bytes_zeros 6)));
  }

  -- it commits nothing, and passes every check
  pub is_clearing : (previous : ℕ) → previous < 4294967296 → Clearing (real L n bank u) (clearing_rec previous)
  is_clearing previous low = record {
    empty = refl;
    passes = refl;
    short = omega (arith, (limited L n u).room, (limited L n u).least);
    small = clearing_small previous low;
  }

  -- a reading of it alone leaves the book empty
  pub clearing_read : (previous : ℕ) → (progress n L bank (clearing_rec previous ∷ []) unread).reading.book ≡ empty_book
  clearing_read previous = refl

  -- what is written of it
  pub clearing_writes : (x previous : ℕ) → Fits (ring L n u) (clearing_rec previous) x x →
      record_writes L x (clearing L x previous) ≡ calls.record_writes (real L n bank u) (clearing_rec previous) x x
  clearing_writes x previous f =
      ap (record_writes L x) (sym (packed_padded L x x previous 1 clearing_op)) ∙ record_same L n bank u (clearing_rec previous) x x f
