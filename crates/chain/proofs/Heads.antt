-- A header that was found due. Assumes nothing.
use Rattle.std.proofs.Common.{◌≡◌, ℕ, ◌+◌, ◌/◌, ◌%◌, ◌≤◌, Bool, true, false, cond, not, eqb, leb, List, Some, None, Option, Ok, Err, refl, ap, ◌∙◌, arith}
use Rattle.std.proofs.lemmas.Bool.{and_parts, eqb-true, leb-true, le-leb}
use Rattle.device.specs.State.{DevState}
use Rattle.device.specs.Steps.{read}
use Rattle.label.specs.declared.label.Label.{Label}
use Rattle.std.specs.Str.{bytes_eq}
use Rattle.label.specs.Position.{volume_sector, cycle, log_sector}
use Rattle.record.specs.declared.header.RecordHeader.{RecordHeader}
use Rattle.record.specs.Record.{is_header, header_of, sound, end_of}
use Rattle.model.specs.Refusals.{Refusal, refusal, by_record, by_session, Outcome, ◌>>=◌, need, from_device}
use Rattle.model.proofs.Outcomes.{need_ok, bind_ok}
use Rattle.volume_log.specs.Seeking.{sound_header}
use Rattle.chain.specs.Records.{header_due, due_answer, header_on}

-- what is due at x, by the sound header there
abbrev pub answer_by : Label → ℕ → ℕ → Option RecordHeader → Outcome RecordHeader
answer_by L e x None = Err (refusal 8 by_record (volume_sector L x) 0)
answer_by L e x (Some r) = need (leb (end_of r x) e) (refusal 8 by_record (volume_sector L x) 0) >>= λ _. Ok r

pub due_by : (L : Label) (e x : ℕ) (b : List ℕ) → due_answer L e x b ≡ (sound_header L x b >>= λ o. answer_by L e x o)
due_by L e x b = by_parts (is_header b) (sound L (header_of b) x)
  where
    by_parts : (a s : Bool) → ((need a (refusal 8 by_record (volume_sector L x) 0) >>= λ _. need s (refusal 7 by_record (volume_sector L x) 0) >>= λ _.
        need (leb (end_of (header_of b) x) e) (refusal 8 by_record (volume_sector L x) 0)) >>= λ _. Ok (header_of b))
        ≡ (cond a (need s (refusal 7 by_record (volume_sector L x) 0) >>= λ _. Ok (Some (header_of b))) (Ok None) >>= λ o. answer_by L e x o)
    by_parts true true = refl
    by_parts true false = refl
    by_parts false s = refl

-- what is known of it
pub record Due (L : Label) (e x room : ℕ) (b : List ℕ) : Type 0 where
  pub room_for : L.most ≤ room
  pub whole : (header_of b).length % 512 ≡ 0
  pub most : (header_of b).length ≤ L.most
  pub by : x + 1 + (header_of b).length / 512 ≤ e

-- a sound header tells whole sectors, not more than a record may have
sound_length : (L : Label) (h : RecordHeader) (x : ℕ) → sound L h x ≡ true → (h.length % 512 ≡ 0) × (h.length ≤ L.most)
sound_length L h x s =
    let s1 = and_parts (eqb h.version 2) _ s in
    let s2 = and_parts (eqb h.format 1) _ s1.1 in
    let s3 = and_parts (bytes_eq h.uuid L.uuid) _ s2.1 in
    let s4 = and_parts (eqb h.own.0 (cycle L x)) _ s3.1 in
    let s5 = and_parts (eqb h.own.1 (log_sector L x)) _ s4.1 in
    let s6 = and_parts (not (eqb h.cycle 0)) _ s5.1 in
    let s7 = and_parts (eqb (h.length % 512) 0) _ s6.1 in
    let s8 = and_parts (leb 512 h.length) _ s7.1 in
    (eqb-true (h.length % 512) 0 s7.0, leb-true h.length L.most s8.1)

due_is : (L : Label) (e x room : ℕ) (b : List ℕ) (u : Unit {0}) → L.most ≤ room → header_due L e x b ≡ Ok u → Due L e x room b
due_is L e x room b u m h =
    let a = need_ok (is_header b) _ _ u h in
    let s = need_ok (sound L (header_of b) x) _ _ u a.1 in
    let l = sound_length L (header_of b) x s.0 in
    let t = need_ok (leb (end_of (header_of b) x) e) (refusal 8 by_record (volume_sector L x) 0) (λ v. Ok v) u (ap (λ y. y >>= λ v. Ok v) s.1) in
    record { room_for = m; whole = l.0; most = l.1; by = leb-true (end_of (header_of b) x) e t.0 }

-- the header by the sector b, once it was read
pub on_read : (d : DevState) (L : Label) (e x room : ℕ) (b : List ℕ) → L.most ≤ room → read d (volume_sector L x) ≡ Ok b → header_on d L e x room ≡ (header_due L e x b >>= λ _. Ok b)
on_read d L e x room b m r =
    ap (λ t. need t (refusal 4 by_session 0 0) >>= λ _. from_device (read d (volume_sector L x)) >>= λ b. header_due L e x b >>= λ _. Ok b) (le-leb L.most room m)
    ∙ ap (λ q. from_device q >>= λ b. header_due L e x b >>= λ _. Ok b) r

pub refused_on : (d : DevState) (L : Label) (e x room : ℕ) (b : List ℕ) (f : Refusal) → L.most ≤ room → read d (volume_sector L x) ≡ Ok b → due_answer L e x b ≡ Err f → header_on d L e x room ≡ Err f
refused_on d L e x room b f m r a = on_read d L e x room b m r ∙ stops (header_due L e x b) a
  where
    stops : (u : Outcome (Unit {0})) → (u >>= λ _. Ok (header_of b)) ≡ Err f → (u >>= λ _. Ok b) ≡ Err f
    stops (Ok tt) q = let z : ◌≡◌ {A = ℕ} 0 1 = cc in absurd (omega arith)
    stops (Err k) q = cc

pub found_on : (d : DevState) (L : Label) (e x room : ℕ) (b : List ℕ) (h : RecordHeader) → L.most ≤ room → read d (volume_sector L x) ≡ Ok b → due_answer L e x b ≡ Ok h
    → (header_on d L e x room ≡ Ok b) × (h ≡ header_of b) × Due L e x room b
found_on d L e x room b h m r a =
    let p = bind_ok (header_due L e x b) _ h a in
    let q : h ≡ header_of b = cc p.2 in
    (on_read d L e x room b m r ∙ ap (λ u. u >>= λ _. Ok b) p.1, q, due_is L e x room b p.0 m p.1)
