-- A commit is read back from the device that it wrote. Assumes nothing.
use Rattle.std.proofs.Common.{◌≡◌, ℕ, suc, ◌+◌, ◌*◌, ◌<◌, ◌≤◌, ◌⊎◌, List, [], ◌∷◌, ◌++◌, length, get_or, take, drop, Ok, Err, sym, refl, ap, ◌∙◌, subst, inl, inr, mod-lt, arith, lit≤}
use Rattle.std.proofs.lemmas.List.{take-append-drop, drop_more, length-take-le}
use Rattle.std.proofs.lemmas.Bool.{cases_lt}
use Rattle.std.specs.List.{AllByRecursion}
use Rattle.device.specs.State.{DevState, sector_at}
use Rattle.device.specs.Steps.{Answer, refusal}
use Rattle.device.specs.Actions.{Action, force, run}
use Rattle.device.specs.Laws.{after_all, Inside, sector_of}
use Rattle.device.specs.declared.fault.Cause.TheVariants.{Spent}
use Rattle.device.proofs.Runs.{run_says}
use Rattle.model.specs.Refusals.{Outcome, ◌>>=◌}
use Rattle.codec.specs.Fields.{Bytes}
use Rattle.item.specs.Meaning.{Bank}
use Rattle.label.specs.declared.label.Label.{Label}
use Rattle.label.specs.Position.{log_sector, volume_sector}
use Rattle.record.specs.Record.{packed, sectors_for}
use Rattle.model.specs.Items.{Item, Book, replay_order, check_all, reading}
use Rattle.model.specs.Reading.{Transaction, Reading, joins, counted}
use Rattle.model.specs.Lay.{record_writes}
use Rattle.model.specs.Calls.{Session, Plan, finished, acted, region_bytes, number_of, end_after, lengthened, commit_plan, commit_call}
use Rattle.model.specs.Laws.{Steady, Commits, CommitLeaves, ops_of, Stand, meanings, located, transaction_ops, commit_op, having_seen, CommitKept}
use Rattle.model.proofs.Back.{written_reads}
use Rattle.model.proofs.Commits.{commit_says}
use Rattle.model.proofs.Puts.{apart, writes_put, held_stand}
use Rattle.model.proofs.Readback.{commit_read}
use Rattle.model.proofs.Checked.{checks_again, same_bytes}

-- a call that was accepted had a plan, and the whole of it was run
ran : {A S : Type 0} (o : Outcome (Plan A S)) (s : S) (d : DevState) (v : A) → (acted o s d).answer ≡ Ok v →
    (p : Plan A S) × (o ≡ Ok p) × ((run p.actions d).answer ≡ Ok tt) × ((acted o s d).device ≡ (run p.actions d).after) × ((acted o s d).session ≡ p.session)
ran {A} {S} (Err x) s d v e = let z : ◌≡◌ {A = ℕ} 0 1 = cc in let y : ⊥ = omega arith in elim y [ ]
ran {A} {S} (Ok p) s d v e = go (run p.actions d).answer refl e
  where
    go : (a : Answer) → (run p.actions d).answer ≡ a → (finished p s a (run p.actions d).after).answer ≡ Ok v →
        (q : Plan A S) × (◌≡◌ {A = Outcome (Plan A S)} (Ok p) (Ok q)) × ((run q.actions d).answer ≡ Ok tt) × ((acted (Ok p) s d).device ≡ (run q.actions d).after) × ((acted (Ok p) s d).session ≡ q.session)
    go (Ok x) q e =
        (p, refl, q, ap (λ a. (finished p s a (run p.actions d).after).device) q, ap (λ a. (finished p s a (run p.actions d).after).session) q)
    go (Err x) q e = let z : ◌≡◌ {A = ℕ} 0 1 = cc in let y : ⊥ = omega arith in elim y [ ]

-- a run that is not refused leaves what its actions say
done_all : (acts : List Action) (d : DevState) → AllByRecursion (Inside d.size) acts → (run acts d).answer ≡ Ok tt → (run acts d).after ≡ after_all acts d
done_all acts d a e = go (cases_lt d.actions (length acts))
  where
    go : (d.actions < length acts) ⊎ (length acts ≤ d.actions) → (run acts d).after ≡ after_all acts d
    go (inr h) = ap (λ x. x.after) ((run_says d acts a).accepted h)
    go (inl h) =
        let n : ℕ = d.actions in
        let x : Action = get_or acts n force in
        let q : acts ≡ take n acts ++ (x ∷ drop (n + 1) acts) = sym (take-append-drop n acts) ∙ ap (λ l. take n acts ++ l) (drop_more acts n force h) in
        let r = (run_says d acts a).refused (take n acts) (drop (n + 1) acts) x q (length-take-le n acts (omega arith)) in
        let t : (run acts d).answer ≡ refusal Spent (sector_of x) = ap (λ y. y.answer) r in
        let z : ◌≡◌ {A = ℕ} 0 1 = cc in
        let y : ⊥ = omega arith in elim y [ ]

inside_record : (L : Label) (size x : ℕ) (secs : List (List ℕ)) → 1 ≤ L.count → L.start + L.count ≤ size → AllByRecursion (Inside size) (record_writes L x secs)
inside_record L size x [] p h = tt
inside_record L size x (b ∷ secs) p h = (let i : log_sector L x < L.count = mod-lt x p in omega (arith, i), inside_record L size (x + 1) secs p h)

fewer : (x t N n k o : ℕ) → n ≡ suc k → x + k + 1 + 2 + 2 * o ≤ t + N → t ≤ x → n ≤ N
fewer x t N n k o e h l = omega arith

ends_by : (x k m : ℕ) → m ≡ x + k + 1 → x + 1 + k ≤ m
ends_by x k m e = omega arith

-- what an accepted commit wrote, and where
abbrev written_sectors : Session → List (List ℕ) → List Item → List (List ℕ)
written_sectors s rs is = packed s.label s.e s.t s.newest (3 + length rs) (ops_of s rs (length is))

wrote : (d : DevState) (s : Session) (bank : Bank) (bytes : List ℕ) (qs : List (ℕ × ℕ)) (number : ℕ) → Steady s → Bytes bytes →
    (commit_call d s bank bytes qs).answer ≡ Ok number →
    (p : Plan ℕ Session) × (is : List Item) × (book : Book) × Commits d s bank (region_bytes bytes qs) p is book
    × ((commit_call d s bank bytes qs).device ≡ after_all (record_writes s.label s.e (written_sectors s (region_bytes bytes qs) is)) d)
    × ((commit_call d s bank bytes qs).session ≡ p.session)
    × (length (written_sectors s (region_bytes bytes qs) is) ≡ suc (sectors_for (length (ops_of s (region_bytes bytes qs) (length is)))))
wrote d s bank bytes qs number w small e =
    let L : Label = s.label in
    let x : ℕ = s.e in
    let rs : List (List ℕ) = region_bytes bytes qs in
    let R = ran (commit_plan d s bank bytes qs) s d number e in
    let C = commit_says d s bank bytes qs R.0 w small R.1 in
    let K = C.2 in
    let is : List Item = C.0 in
    let ops : List ℕ = ops_of s rs (length is) in
    let secs : List (List ℕ) = written_sectors s rs is in
    let acts : List Action = record_writes L x secs in
    let W = written_reads L x s.t s.newest (3 + length rs) ops w.sane K.fits in
    let a : R.0.actions ≡ acts = ap (λ p. p.actions) K.plan in (
      R.0,
      is,
      C.1,
      K,
      R.3 ∙ ap (λ l. (run l d).after) a
          ∙ done_all acts d (inside_record L d.size x secs w.sane.some K.there) (ap (λ l. (run l d).answer) (sym a) ∙ R.2),
      R.4,
      ap length W.2 ∙ ap suc W.3.as_many,
    )

within_turn : (x y t N n k o j : ℕ) → n ≡ suc k → x + k + 1 + 2 + 2 * o ≤ t + N → t ≤ y → j < n → x + j < y + N
within_turn x y t N n k o j e h l u = omega arith

pub commit_leaves : CommitLeaves
commit_leaves d s bank bytes qs number w small len e y low high =
    let L : Label = s.label in
    let x : ℕ = s.e in
    let rs : List (List ℕ) = region_bytes bytes qs in
    let R = wrote d s bank bytes qs number w small e in
    let K = R.3 in
    let ops : List ℕ = ops_of s rs (length R.1) in
    let secs : List (List ℕ) = written_sectors s rs R.1 in
    let P = writes_put L x secs d.contents w.sane.some (fewer x s.t L.count (length secs) (sectors_for (length ops)) (length R.2.intents) R.6 K.room w.behind) (subst (λ (m : ℕ). L.start + L.count ≤ m) (sym len) K.there) in
    ap (λ z. sector_at z (volume_sector L y)) R.4
    ∙ P.kept (volume_sector L y) (λ j h q.
    apart L.count y (x + j) w.sane.some (omega arith) (within_turn x y s.t L.count (length secs) (sectors_for (length ops)) (length R.2.intents) j R.6 K.room low h) (omega (arith, q)))

pub commit_kept : CommitKept
commit_kept d s bank bytes qs number log r w small len e reads ready clear same =
    let L : Label = s.label in
    let x : ℕ = s.e in
    let rs : List (List ℕ) = region_bytes bytes qs in
    let V : ℕ = volume_sector L x in
    let R = wrote d s bank bytes qs number w small e in
    let K = R.3 in
    let is : List Item = R.1 in
    let book : Book = R.2 in
    let ops : List ℕ = ops_of s rs (length is) in
    let secs : List (List ℕ) = written_sectors s rs is in
    let d' : DevState = (commit_call d s bank bytes qs).device in
    let n = R.6 in
    let D = R.4 in
    let P = writes_put L x secs d.contents w.sane.some (fewer x s.t L.count (length secs) (sectors_for (length ops)) (length book.intents) n K.room w.behind) (subst (λ (m : ℕ). L.start + L.count ≤ m) (sym len) K.there) in
    let st : Stand L log x secs = held_stand d' L log x secs w.sane.some reads (λ j h. ap (λ y. sector_at y (volume_sector L (x + j))) D ∙ P.put j h) in
    let S : (commit_call d s bank bytes qs).session ≡ lengthened s (end_after x ops) book = R.5 ∙ ap (λ p. p.session) K.plan in
    let A = checks_again d d' L bank rs V V 40 is s.book book (sym (ap (λ y. y.size) D)) ready K.framed K.checked in
    let js : List Item = A.0 in
    let T : Reading = having_seen (counted r) (transaction_ops (number_of x) (length is) V rs ++ (commit_op (number_of x) V rs ∷ [])) in
    let last : x + 1 + sectors_for (length ops) ≤ (commit_call d s bank bytes qs).session.e = ends_by x (sectors_for (length ops)) (commit_call d s bank bytes qs).session.e (ap (λ y. y.e) S) in
    let M = commit_read d' L bank log (commit_call d s bank bytes qs).session.e x s.t s.newest (number_of x) (length is) rs r w.sane K.fits (mod-lt x (lit≤ tt)) K.small clear st last in (
      joins bank (located V 40 rs) (replay_order bank js) book T,
      meanings bank (replay_order bank js),
      M ∙ ap (λ z. z >>= λ is. check_all reading d' L bank (replay_order bank is) r.book >>= λ b. Ok (joins bank (located V 40 rs) (replay_order bank is) b T)) A.1
          ∙ ap (λ b₀. check_all reading d' L bank (replay_order bank js) b₀ >>= λ b. Ok (joins bank (located V 40 rs) (replay_order bank js) b T)) same
          ∙ ap (λ z. z >>= λ b. Ok (joins bank (located V 40 rs) (replay_order bank js) b T)) A.2,
      ap (λ g. let t : Transaction = record { regions = g; items = meanings bank (replay_order bank js) } in r.done ++ (t ∷ [])) (same_bytes V 0 V 40 rs).1,
      sym (ap (λ y. y.book) S),
      refl,
      refl,
    )
