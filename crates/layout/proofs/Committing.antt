-- A commit that its checks accept is a step of a life. Assumes nothing.
use Rattle.std.proofs.Common.{◌≡◌, ℕ, suc, ◌+◌, ◌-◌, ◌*◌, ◌≤◌, true, List, [], ◌∷◌, ◌++◌, map, length, Ok, sym, refl, ap, ◌∙◌, subst, mod-lt, arith, lit≤}
use Rattle.std.specs.List.{AllByRecursion}
use Rattle.std.proofs.lemmas.List.{map-append, get_or-replicate}
use Rattle.std.proofs.lemmas.Bool.{cond-true}
use Rattle.codec.specs.Fields.{Bytes, zeros}
use Rattle.device.specs.State.{DevState, holds, unreadable}
use Rattle.label.specs.declared.label.Label.{Label}
use Rattle.label.specs.Position.{log_sector, volume_sector}
use Rattle.record.specs.Record.{padded, sectors_for}
use Rattle.item.specs.Meaning.{Bank, WholeBank}
use Rattle.model.specs.Refusals.{◌>>=◌}
use Rattle.model.specs.Items.{Region, Item, Book, items_after, replay_order, check_all, reading}
use Rattle.model.specs.Reading.{Transaction, Reading, joins, counted}
use Rattle.model.specs.Lay.{record_writes}
use Rattle.model.specs.Calls.{Session, Plan, number_of, region_bytes, commit_plan}
use Rattle.model.specs.Laws.{located, transaction_ops, commit_op, having_seen, AllReadable, meanings, Steady, ops_of, Commits}
use Rattle.model.proofs.Stamped.{length_padded}
use Rattle.model.proofs.Sums.{bytes_padded}
use Rattle.model.proofs.Opsback.{ops_read}
use Rattle.model.proofs.Checked.{same_bytes, checks_again}
use Rattle.model.proofs.Commits.{commit_says}
use Rattle.life.specs.Format.{Rec, Fits}
use Rattle.life.specs.Calls as life
use Rattle.layout.specs.Read.{clean, Progress, unread, taken, read_rec, progress, reads, asked, asked_by, items}
use Rattle.layout.specs.Real.{Usable}
use Rattle.layout.proofs.Ring.{ring, limited, sane}
use Rattle.layout.proofs.More.{progress_joins}
use Rattle.layout.proofs.Chains.{progress_closed}
use Rattle.layout.proofs.Real.{real}
use Rattle.layout.proofs.Writes.{packed_padded, record_same}
use Rattle.layout.proofs.Sounds.{checked_sound}
use Rattle.layout.proofs.Matches.{Matches}

-- the plan p of a commit of the regions rs is a commit of a life
abbrev pub CommitSteps : (L : Label) (n : ℕ) (bank : Bank) → Usable L n → life.Session → List (List ℕ) → Plan ℕ Session → Type 0
CommitSteps L n bank u s' rs p =
    (r : Rec) × life.Commits (real L n bank u) s' r rs × (p.actions ≡ life.record_writes (real L n bank u) r s'.t s'.e) ×
    Fits (ring L n u) r s'.t s'.e × Matches L n bank p.session (life.committed s' r)

-- a volume all of which can be read
pub clean_readable : (n : ℕ) → AllReadable (clean n)
clean_readable n i h = (zeros 512, get_or-replicate n i (holds (zeros 512)) unreadable h)

-- the record that commit builds of ops
abbrev pub commit_rec : Session → List (List ℕ) → ℕ → Rec
commit_rec s rs count =
    record { previous = s.newest; ops = 3 + length rs; more = sectors_for (length (ops_of s rs count)); payload = padded (ops_of s rs count) }

-- with the label, the end and the tail of the session itself
module _ (n : ℕ) (bank : Bank) (whole : WholeBank bank) (d : DevState) (same : d.size ≡ n) (s : Session) (u : Usable s.label n) (newest : ℕ) (chain : List Rec)
    (near : s.newest ≡ log_sector s.label newest) (books : s.book ≡ (progress n s.label bank chain unread).reading.book) where
  abbrev twin : life.Session
  twin = record { e = s.e; t = s.t; a = s.a; newest = newest; chain = chain }

  abbrev before : Progress
  before = progress n s.label bank chain unread

  module _ (steady : life.Steady (real s.label n bank u) twin) where
    -- a session of a life is steady
    pub steady_here : Steady s
    steady_here =
        let some : 1 ≤ s.label.count = omega (arith, (limited s.label n u).some) in
        record {
          sane = sane s.label n u;
          even = (limited s.label n u).even;
          begun = omega (arith, steady.turn, steady.begun, steady.low);
          behind = omega (arith, steady.begun, steady.low);
          low = omega (arith, near, mod-lt newest some);
        }

    module _ (rs : List (List ℕ)) (p : Plan ℕ Session) (is : List Item) (book : Book) (K : Commits d s bank rs p is book) where
      abbrev ops : List ℕ
      ops = ops_of s rs (length is)

      abbrev rec : Rec
      rec = commit_rec s rs (length is)

      fits_here : Fits (ring s.label n u) rec s.t s.e
      fits_here = record {
        small = record {
          previous_low = K.fits.previous_low;
          ops_low = K.fits.ops_low;
          some = omega (arith, K.fits.some);
          most = K.fits.most;
          whole = length_padded ops;
          bytes = bytes_padded ops K.fits.bytes;
        };
        begun = K.fits.begun;
        behind = K.fits.behind;
        last = K.fits.last;
      }

      acts_here : p.actions ≡ life.record_writes (real s.label n bank u) rec s.t s.e
      acts_here =
          ap (λ q. q.actions) K.plan
          ∙ ap (record_writes s.label s.e) (sym (packed_padded s.label s.e s.t s.newest (3 + length rs) ops))
          ∙ record_same s.label n bank u rec s.t s.e fits_here

      -- its items, read anywhere
      again : (byte : ℕ) → (js : List Item) × (items_after 0 (located 0 byte rs) ≡ Ok js) × (check_all reading (clean n) s.label bank (replay_order bank js) s.book ≡ Ok book) ×
          (meanings bank (replay_order bank js) ≡ meanings bank (replay_order bank is))
      again byte =
          checks_again d (clean n) s.label bank rs (volume_sector s.label s.e) 0 byte is s.book book same (clean_readable n) K.framed K.checked

      sound_here : AllByRecursion (life.Sound (real s.label n bank u)) (items bank rs)
      sound_here =
          let A = again 0 in
          let q : items bank rs ≡ asked (meanings bank (replay_order bank is)) = ap (asked_by bank) A.1 ∙ ap asked A.3 in
          subst (λ l. AllByRecursion (life.Sound (real s.label n bank u)) l) (sym q) (checked_sound s.label n bank u whole d same (replay_order bank is) s.book book K.checked)

      abbrev after : List Item → Reading
      after js =
          joins bank (located 0 40 rs) (replay_order bank js) book
          (having_seen (counted before.reading) (transaction_ops (number_of s.e) (length is) 0 rs ++ (commit_op (number_of s.e) 0 rs ∷ [])))

      read_one : (js : List Item) × (read_rec n s.label bank rec before.reading ≡ Ok (after js))
      read_one =
          let A = again 40 in
          let T : Reading = having_seen (counted before.reading) (transaction_ops (number_of s.e) (length is) 0 rs ++ (commit_op (number_of s.e) 0 rs ∷ [])) in
          let M = ops_read (clean n) s.label bank 0 (number_of s.e) (length is) rs (zeros (512 * sectors_for (length ops) - length ops)) (counted before.reading)
          (mod-lt s.e (lit≤ tt)) K.small (progress_closed n s.label bank chain unread refl refl steady.passes) in (
            A.0,
            M ∙ ap (λ z. z >>= λ is. check_all reading (clean n) s.label bank (replay_order bank is) before.reading.book >>= λ b. Ok (joins bank (located 0 40 rs) (replay_order bank is) b T)) A.1
                ∙ ap (λ b₀. check_all reading (clean n) s.label bank (replay_order bank A.0) b₀ >>= λ b. Ok (joins bank (located 0 40 rs) (replay_order bank A.0) b T)) (sym books)
                ∙ ap (λ z. z >>= λ b. Ok (joins bank (located 0 40 rs) (replay_order bank A.0) b T)) A.2,
          )

      read_on : progress n s.label bank (chain ++ (rec ∷ [])) unread ≡ record { reading = after read_one.0; passed = true }
      read_on =
          progress_joins n s.label bank chain (rec ∷ []) unread
          ∙ cond-true before.passed (taken (read_rec n s.label bank rec before.reading) before.reading) before steady.passes
          ∙ ap (λ x. taken x before.reading) read_one.1

      reads_here : reads n s.label bank (chain ++ (rec ∷ [])) ≡ reads n s.label bank chain ++ (rs ∷ [])
      reads_here =
          let f : Transaction → List (List ℕ) = λ x. x.regions in
          let x : Transaction = record { regions = map (λ (y : Region). y.bytes) (located 0 40 rs); items = meanings bank (replay_order bank read_one.0) } in
          ap (λ z. map f z.reading.done) read_on
          ∙ map-append f before.reading.done (x ∷ [])
          ∙ ap (λ y. map f before.reading.done ++ (y ∷ [])) (same_bytes 0 0 0 40 rs).1

      commits_here : life.Commits (real s.label n bank u) twin rec rs
      commits_here = record {
        window = omega (arith, K.window);
        room = omega (arith, K.room);
        small = fits_here.small;
        last = K.fits.last;
        reads = reads_here;
        sound = sound_here;
        passes = ap (λ z. z.passed) read_on;
      }

      matches_here : Matches s.label n bank p.session (life.committed twin rec)
      matches_here =
          let z : s.e + sectors_for (length ops) + 1 ≡ s.e + suc (sectors_for (length ops)) = omega arith in
          record {
            label = ap (λ q. q.session.label) K.plan;
            e = ap (λ q. q.session.e) K.plan ∙ z;
            t = ap (λ q. q.session.t) K.plan;
            a = ap (λ q. q.session.a) K.plan;
            newest = ap (λ q. q.session.newest) K.plan;
            book = ap (λ q. q.session.book) K.plan ∙ sym (ap (λ z. z.reading.book) read_on);
          }

    step_here : (bytes : List ℕ) (regions : List (ℕ × ℕ)) (p : Plan ℕ Session) → Bytes bytes → commit_plan d s bank bytes regions ≡ Ok p →
        CommitSteps s.label n bank u twin (region_bytes bytes regions) p
    step_here bytes regions p small e =
        let rs : List (List ℕ) = region_bytes bytes regions in
        let k = commit_says d s bank bytes regions p steady_here small e in
        (commit_rec s rs (length k.0), commits_here rs p k.0 k.1 k.2, acts_here rs p k.0 k.1 k.2, fits_here rs p k.0 k.1 k.2, matches_here rs p k.0 k.1 k.2)

-- with any session that matches
module _ (L : Label) (n : ℕ) (bank : Bank) (u : Usable L n) where
  pub commit_step : WholeBank bank → (d : DevState) (s : Session) (s' : life.Session) (bytes : List ℕ) (regions : List (ℕ × ℕ)) (p : Plan ℕ Session) →
      d.size ≡ n → Matches L n bank s s' → life.Steady (real L n bank u) s' → Bytes bytes → commit_plan d s bank bytes regions ≡ Ok p →
      CommitSteps L n bank u s' (region_bytes bytes regions) p
  commit_step whole d s s' bytes regions p same m steady small e =
      let rs : List (List ℕ) = region_bytes bytes regions in
      let z : life.Session = record { e = s.e; t = s.t; a = s.a; newest = s'.newest; chain = s'.chain } in
      let q : z ≡ s' = λ i. record { e = m.e i; t = m.t i; a = m.a i; newest = s'.newest; chain = s'.chain } in
      let P : life.Session → Type 0 = λ y. life.Steady (real L n bank u) y → CommitSteps L n bank u y rs p in
      let Q : Label → Type 0 = λ K. (v : Usable K n) → s.newest ≡ log_sector K s'.newest → s.book ≡ (progress n K bank s'.chain unread).reading.book →
      life.Steady (real K n bank v) z → CommitSteps K n bank v z rs p in
      let here : Q s.label = λ v near books w. step_here n bank whole d same s v s'.newest s'.chain near books w bytes regions p small e in
      subst P q (subst Q m.label here u m.newest m.book) steady
