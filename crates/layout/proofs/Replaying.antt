-- A replay by the call is a replay of a life over the real layout, and every life by the calls is such a life. Assumes nothing.
use Rattle.std.proofs.Common.{◌≡◌, ℕ, ◌+◌, ◌/◌, true, cond, ◌⊎◌, List, [], ◌∷◌, length, Some, Ok, Err, Option, sym, refl, ap, ◌∙◌, subst, inl, inr, arith}
use Rattle.device.specs.State.{DevState, Sector, sector_at}
use Rattle.device.specs.Actions.{Action, run}
use Rattle.label.specs.declared.label.Label.{Label}
use Rattle.item.specs.Meaning.{Bank, WholeBank}
use Rattle.model.specs.Refusals.{Refusal, Outcome}
use Rattle.model.specs.Calls.{Session, Plan, Counts, acted, replay_plan, replay_call}
use Rattle.life.specs.Disk.{Disk, In}
use Rattle.life.specs.Disk as disk
use Rattle.life.specs.Format.{Rec, size, Transaction, chain_items}
use Rattle.life.specs.Format as format
use Rattle.life.specs.Items.{Item, ByteHolds, Touched, Open, Distinct, open_ids}
use Rattle.life.specs.Items as items
use Rattle.life.specs.Calls.{byte_at}
use Rattle.life.specs.Calls as calls
use Rattle.life.specs.Life.{Entry, transactions}
use Rattle.life.specs.Life as life
use Rattle.layout.specs.Real.{Usable}
use Rattle.layout.specs.Volumes.{Volume, accepted, served, disk_of}
use Rattle.layout.specs.Lives.{Life, labelled, commits, forces, clears, replays, cuts, Account, went, all_items, Chain, Replayed}
use Rattle.layout.proofs.Real.{real}
use Rattle.layout.proofs.Deciding.{Decided, replay_decides}
use Rattle.layout.proofs.Showing.{acted_answer, acted_device, acted_session, Match, Fair, Ran, acts_went, acts_fair, Shown, normal, Facts, facts}
use Rattle.layout.proofs.Steps.{label_shown, commit_shown, force_shown, clear_shown, cut_shown, items_same, home_here, replay_ran}

module _ (L : Label) (n : ℕ) (bank : Bank) (u : Usable L n) (wide : WholeBank bank) (base : ℕ → Sector) where
  -- the plan of a replay, decided on a volume with these facts
  abbrev pub Decides : (v : Volume) → v.device.size ≡ n → Facts L n bank u base v → Plan Counts (Option Session) → Type 0
  Decides v size K p = Decided L n bank u v.device size K.full K.label K.whole K.found p

  -- the actions of a replay
  abbrev pub todo : (v : Volume) → Facts L n bank u base v → List Action
  todo v K = calls.replays (real L n bank u) (sector_at v.device) K.found.m K.found.e K.found.chain

  -- records that stand in a life stand on the volume
  chain_stands : (c : ℕ → Sector) (p e : ℕ) (chain : List Rec) → calls.Chain (real L n bank u) c p e chain → Chain L c p e chain
  chain_stands c p e [] k = k
  chain_stands c p e (r ∷ rs) k = (k.0, (k.1.0, k.1.2), chain_stands c (p + size r) e rs k.2)

  -- what a replay of a life has done, a replay by the call has done
  replayed_here : (v : Volume) (size : v.device.size ≡ n) (K : Facts L n bank u base v) (p : Plan Counts (Option Session)) (D : Decides v size K p) (before after : List Entry)
      (d' : DevState) (answer : Counts) → p.answer ≡ answer → (disk.run (todo v K) (disk_of v)).0.now ≡ sector_at d' →
      life.Replayed (real L n bank u) base before after (sector_at v.device) (disk.run (todo v K) (disk_of v)).0.now K.found.chain (calls.counts (real L n bank u) K.found.chain) →
      Replayed L n bank base before after v.device d' answer D.session
  replayed_here v size K p D before after d' answer same now R =
      let chain = K.found.chain in
      let read : List Transaction = (real L n bank u).reads chain in
      let i : chain_items (real L n bank u) chain ≡ all_items bank read = items_same L n bank u wide base read in
      let k : format.all_items (real L n bank u) (transactions R.kept) ≡ all_items bank (transactions R.kept) = items_same L n bank u wide base (transactions R.kept) in
      let b : open_ids (chain_items (real L n bank u) chain) ≡ D.session.book.intents = sym D.intents in
      record {
        kept = R.kept;
        dropped = R.dropped;
        split = R.split;
        unsafe = R.unsafe;
        now_safe = R.now_safe;
        chain = chain;
        stood = subst (λ (t : ℕ). Chain L (sector_at v.device) t D.session.e chain) (sym D.matches.t)
            (subst (λ (e : ℕ). Chain L (sector_at v.device) K.found.t e chain) (sym D.matches.e)
            (chain_stands (sector_at v.device) K.found.t K.found.e chain K.found.plan.chained));
        older = R.older;
        read = read;
        committed = refl;
        counts_records = ap (λ (c : Counts). c.records) (sym same) ∙ D.records;
        youngest = R.youngest;
        counts_read = ap (λ (c : Counts). c.transactions) (sym same) ∙ D.transactions;
        counts_applied = ap (λ (c : Counts). c.applied) (sym same) ∙ D.applies ∙ ap (λ l. length (items.applied l)) i;
        counts_skipped = ap (λ (c : Counts). c.skipped) (sym same) ∙ D.skips ∙ ap (λ l. length (items.skipped l)) i;
        counts_open = ap (λ (c : Counts). c.intents) (sym same) ∙ D.opens;
        bytes = λ x h. subst (λ (c : ℕ → Sector). ByteHolds (all_items bank (transactions R.kept)) x (byte_at base x) (byte_at c x)) now
            (subst (λ (l : List Item). ByteHolds l x (byte_at base x) (byte_at (disk.run (todo v K) (disk_of v)).0.now x)) k (R.bytes x (home_here L n bank u wide base (x / 512) h)));
        still = λ x h t. ap (λ (c : ℕ → Sector). byte_at c x) (sym now)
            ∙ R.still x (home_here L n bank u wide base (x / 512) h) (λ a. t (subst (λ (l : List Item). Touched l x) i a));
        listed_open = λ j a. subst (λ (l : List Item). Open l j) k (R.listed_open j (subst (λ (l : List ℕ). In j l) (sym b) a));
        open_listed = λ j a. subst (λ (l : List ℕ). In j l) b (R.open_listed j (subst (λ (l : List Item). Open l j) (sym k) a));
        once = subst (λ (l : List ℕ). Distinct l) b R.once;
      }

  replay_shown : {v : Volume} {o : Option Session} (l : Life L n bank base v o) (work : ℕ) → Shown L n bank u base l → Shown L n bank u base (replays l work)
  replay_shown {v} {o} l work S = normal L n bank u base l (Shown L n bank u base (replays l work)) S go
    where
      go : (o' : Option calls.Session) (l' : life.Life (real L n bank u) base (disk_of v) o') → Fair L n bank u v o (disk_of v) o' →
          ((acc : List Entry) → life.Account l' acc → Account l acc) → Shown L n bank u base (replays l work)
      go o' l' f a = by (replay_decides L n bank u v.device f.size K.full K.label K.whole K.found work)
        where
          K : Facts L n bank u base v
          K = facts L n bank u base v o' l' f.kept

          by : ((r : Refusal) × (replay_plan v.device bank work ≡ Err r) × ((r.number ≡ 3) ⊎ (r.number ≡ 4)))
              ⊎ ((p : Plan Counts (Option Session)) × (replay_plan v.device bank work ≡ Ok p) × Decides v f.size K p) → Shown L n bank u base (replays l work)
          by (inl x) =
              let e : replay_plan v.device bank work ≡ Err x.0 = x.1 in
              record {
                d = disk_of v;
                o' = o';
                lived = l';
                fair = subst (λ (y : Outcome (Plan Counts (Option Session))). Fair L n bank u (served y v) (acted y o v.device).session (disk_of v) o') (sym e) f;
                account = λ acc A. (acc, a acc A, (λ _. refl), λ answer q. refused x answer (ap (λ (y : Outcome (Plan Counts (Option Session))). (acted y o v.device).answer) (sym e) ∙ q));
              }
            where
              refused : (x : (r : Refusal) × (replay_plan v.device bank work ≡ Err r) × ((r.number ≡ 3) ⊎ (r.number ≡ 4))) {R : Type 0} (answer : Counts) →
                  ◌≡◌ {A = Outcome Counts} (Err x.0) (Ok answer) → R
              refused x answer q = let z : ◌≡◌ {A = ℕ} 0 1 = cc in let y : ⊥ = omega arith in elim y [ ]
          by (inr x) =
              let p : Plan Counts (Option Session) = x.0 in
              let e : replay_plan v.device bank work ≡ Ok p = x.1 in
              let D : Decides v f.size K p = x.2 in
              let X : List Action = todo v K in
              let R : Ran L n bank u v X = replay_ran L n bank u wide base v o o' f K D.reads in
              let s' : calls.Session = calls.replayed K.found.n K.found.e K.found.t K.found.chain in
              let g : went (replay_call v.device o bank work).answer ≡ (disk.run X (disk_of v)).1 =
              ap (λ (y : Outcome (Plan Counts (Option Session))). went (acted y o v.device).answer) e ∙ acts_went L n bank u (λ x. x) p o v X D.actions R in
              let after : (replay_call v.device o bank work).device ≡ (run X v.device).after =
              ap (λ (y : Outcome (Plan Counts (Option Session))). (acted y o v.device).device) e ∙ acted_device p o v.device ∙ ap (λ l. (run l v.device).after) D.actions in
              let now : (disk.run X (disk_of v)).0.now ≡ sector_at (replay_call v.device o bank work).device =
              ap (λ (k : Disk). k.now) (sym R.after) ∙ ap sector_at (sym after) in
              record {
                d = (disk.run X (disk_of v)).0;
                o' = cond (disk.run X (disk_of v)).1 (Some s') o';
                lived = life.replay l' K.found.plan D.reads;
                fair = subst (λ (y : Outcome (Plan Counts (Option Session))). Fair L n bank u (served y v) (acted y o v.device).session (disk.run X (disk_of v)).0
                    (cond (disk.run X (disk_of v)).1 (Some s') o')) (sym e)
                    (acts_fair L n bank u (λ x. x) p o v X D.actions R (λ t. cond t (Some s') o')
                    (subst (λ (z : Option Session). Match L n bank u z (Some s')) (sym D.given) D.matches) f.match);
                account = λ acc A. (
                  A.0,
                  a A.0 A.1,
                  (λ q. A.3 (sym g ∙ q)),
                  λ answer q.
                      let w : (acted (Ok p) o v.device).answer ≡ Ok answer = ap (λ (y : Outcome (Plan Counts (Option Session))). (acted y o v.device).answer) (sym e) ∙ q in
                      let y = acted_answer p o v.device answer w in
                      let t : (disk.run X (disk_of v)).1 ≡ true = sym R.answer ∙ ap (λ l. accepted (run l v.device).answer) (sym D.actions) ∙ y.0 in
                      let s : (replay_call v.device o bank work).session ≡ Some D.session =
                      ap (λ (y : Outcome (Plan Counts (Option Session))). (acted y o v.device).session) e ∙ acted_session p o v.device ∙ ap (λ b. cond b p.session o) y.0 ∙ D.given in
                      (D.session, s, replayed_here v f.size K p D A.0 acc (replay_call v.device o bank work).device answer y.1 now (A.4 t)),
                );
              }

  -- every life by the calls
  pub shown : {v : Volume} {o : Option Session} (l : Life L n bank base v o) → Shown L n bank u base l
  shown (labelled d q ok same) = label_shown L n bank u wide base d q ok same
  shown (commits l bytes regions k) = commit_shown L n bank u wide base l bytes regions k (shown l)
  shown (forces l) = force_shown L n bank u wide base l (shown l)
  shown (clears l work) = clear_shown L n bank u wide base l work (shown l)
  shown (replays l work) = replay_shown l work (shown l)
  shown (cuts l k) = cut_shown L n bank u wide base l k (shown l)
