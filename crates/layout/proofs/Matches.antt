-- When a session of the calls is one of a life. Assumes nothing.
use Rattle.std.proofs.Common.{◌≡◌, ℕ}
use Rattle.label.specs.declared.label.Label.{Label}
use Rattle.label.specs.Position.{log_sector}
use Rattle.item.specs.Meaning.{Bank}
use Rattle.model.specs.Calls.{Session}
use Rattle.life.specs.Calls as life
use Rattle.layout.specs.Read.{unread, progress}

-- the session s of the label L has the numbers of s', and the book that reading the chain of s' gives
pub record Matches (L : Label) (n : ℕ) (bank : Bank) (s : Session) (s' : life.Session) : Type 0 where
  pub label : s.label ≡ L
  pub e : s.e ≡ s'.e
  pub t : s.t ≡ s'.t
  pub a : s.a ≡ s'.a
  pub newest : s.newest ≡ log_sector L s'.newest
  pub book : s.book ≡ (progress n L bank s'.chain unread).reading.book
