-- Each step of a life by the calls is a step of a life over the real layout. Assumes nothing.
use Rattle.std.proofs.Common.{◌≡◌, ℕ, ◌+◌, ◌%◌, ◌<◌, ◌≤◌, true, false, cond, ◌⊎◌, List, [], ◌∷◌, ◌++◌, Some, None, Ok, Err, Option, sym, refl, ap, ◌∙◌, subst, inl, inr, mod-lt, arith}
use Rattle.std.specs.List.{AllByRecursion}
use Rattle.std.proofs.lemmas.List.{get_or_past}
use Rattle.std.proofs.lemmas.Bool.{cases_lt}
use Rattle.codec.specs.Fields.{Bytes}
use Rattle.device.specs.State.{DevState, Sector, sector_at, unreadable}
use Rattle.device.specs.Actions.{Action, force, run}
use Rattle.label.specs.declared.label.Label.{Label}
use Rattle.label.specs.Label.{limits}
use Rattle.item.specs.Meaning.{Bank, WholeBank}
use Rattle.model.specs.Refusals.{refusal, by_session, Outcome, ◌>>=◌, need}
use Rattle.model.specs.Reading.{Reading, read_chain}
use Rattle.model.specs.Calls.{Session, Plan, acted, settles, label_actions, label_plan, label_call, commit_plan, commit_call, clear_plan, clear_call, patches, region_bytes}
use Rattle.life.specs.Disk.{Disk, Writes, In}
use Rattle.life.specs.Disk as disk
use Rattle.life.specs.Format.{Rec, Format, Fits, Transaction, chain_items}
use Rattle.life.specs.Format as format
use Rattle.life.specs.Calls.{Readable, byte_at}
use Rattle.life.specs.Calls as calls
use Rattle.life.specs.Life.{Entry, transactions, secure, Finds}
use Rattle.life.specs.Life as life
use Rattle.life.proofs.Disk.{Kept}
use Rattle.life.proofs.Inside.{commit_inside, replay_inside, clear_inside}
use Rattle.life.proofs.Second.{life_stands}
use Rattle.layout.specs.Real.{Usable}
use Rattle.layout.specs.Chains.{Three, ChainRead}
use Rattle.layout.specs.Volumes.{Volume, accepted, after_run, served, disk_of}
use Rattle.layout.specs.Lives.{Sectored, Cut, fresh, Life, labelled, commits, forces, clears, cuts, Account, went, all_items, Home}
use Rattle.layout.proofs.Ring.{sane}
use Rattle.layout.proofs.Real.{real}
use Rattle.layout.proofs.Clearing.{clearing_rec}
use Rattle.layout.proofs.Labelling.{label_acts, first_fits, label_same}
use Rattle.layout.proofs.Committing.{commit_step}
use Rattle.layout.proofs.Clearings.{ClearSteps, clear_step}
use Rattle.layout.proofs.Sizes.{SizedAt, puts_sized, label_whole, replays_sized, clearings_sized, labels_sized, inside_below, labels_below}
use Rattle.layout.proofs.Matches.{Matches}
use Rattle.layout.proofs.Deciding.{finding, sought_here, chain_here, patches_same}
use Rattle.layout.proofs.Showing.{acted_answer, acted_device, book_listed, Fair, Ran, ran, acts_went, acts_fair, Shown, normal, Facts, facts}

module _ (L : Label) (n : ℕ) (bank : Bank) (u : Usable L n) (wide : WholeBank bank) (base : ℕ → Sector) where
  -- Label.

  label_decides : (d : DevState) → d.size ≡ n → label_plan d L ≡ Ok (record { actions = label_actions L; answer = tt; session = tt })
  label_decides d q =
      ap (λ t. need t (refusal 1 by_session 0 0) >>= λ _. Ok (record { actions = label_actions L; answer = tt; session = tt })) (ap (limits L) q ∙ u.kept)

  fresh_kept : (d : DevState) → Sectored n d → Kept SizedAt (disk_of (fresh d))
  fresh_kept d q = (λ j. inl refl, λ j. (λ b e. q.full j b e, tt))

  pub label_shown : (d : DevState) (q : Sectored n d) (ok : (label_call d L).answer ≡ Ok tt) (same : (i : ℕ) → sector_at (label_call d L).device i ≡ base i) →
      Shown L n bank u base (labelled d q ok same)
  label_shown d q ok same =
      let p : Plan (Unit {0}) (Unit {0}) = record { actions = label_actions L; answer = tt; session = tt } in
      let e : label_plan d L ≡ Ok p = label_decides d q.size in
      let r : Rec = clearing_rec 0xFFFFFFFF in
      let X : List Action = calls.labels (real L n bank u) r in
      let w : label_actions L ≡ X = label_same L n bank u in
      let R : Ran L n bank u (fresh d) X =
      ran L n bank u (fresh d) X q.size q.listed (fresh_kept d q) (labels_below (real L n bank u) r)
      (labels_sized (real L n bank u) r (label_whole L u.uuid) (first_fits L n bank u)) in
      let a = acted_answer p tt d tt (ap (λ y. (acted y tt d).answer) (sym e) ∙ ok) in
      let t : (disk.run X (disk_of (fresh d))).1 ≡ true = sym R.answer ∙ ap (λ l. accepted (run l d).answer) (sym w) ∙ a.0 in
      let v : (label_call d L).device ≡ (run X d).after = ap (λ y. (acted y tt d).device) e ∙ acted_device p tt d ∙ ap (λ l. (run l d).after) w in
      let F : Fair L n bank u (after_run X (fresh d)) None (disk.run X (disk_of (fresh d))).0 None =
      record { shows = R.after; match = tt; size = R.size; listed = R.listed; kept = R.kept } in
      record {
        d = (disk.run X (disk_of (fresh d))).0;
        o' = None;
        lived = life.labelled (disk_of (fresh d)) r (label_acts L n bank u) t
            (λ i. ap (λ (k : Disk). k.now i) (sym R.after) ∙ ap (λ (x : DevState). sector_at x i) (sym v) ∙ same i);
        fair = subst (λ (y : Outcome (Plan (Unit {0}) (Unit {0}))). Fair L n bank u (served y (fresh d)) None (disk.run X (disk_of (fresh d))).0 None) (sym e)
            (subst (λ (l : List Action). Fair L n bank u (after_run l (fresh d)) None (disk.run X (disk_of (fresh d))).0 None) (sym w) F);
        account = λ acc A. A;
      }

  -- Commit.

  pub commit_shown : {v : Volume} {s : Session} (l : Life L n bank base v (Some s)) (bytes : List ℕ) (regions : List (ℕ × ℕ)) (k : Bytes bytes) →
      Shown L n bank u base l → Shown L n bank u base (commits l bytes regions k)
  commit_shown {v} {s} l bytes regions k S = normal L n bank u base l (Shown L n bank u base (commits l bytes regions k)) S go
    where
      go : (o' : Option calls.Session) (l' : life.Life (real L n bank u) base (disk_of v) o') → Fair L n bank u v (Some s) (disk_of v) o' →
          ((acc : List Entry) → life.Account l' acc → Account l acc) → Shown L n bank u base (commits l bytes regions k)
      go None l' f a = elim f.match [ ]
      go (Some s') l' f a = by (commit_plan v.device s bank bytes regions) refl
        where
          by : (x : Outcome (Plan ℕ Session)) → commit_plan v.device s bank bytes regions ≡ x → Shown L n bank u base (commits l bytes regions k)
          by (Err r) e = record {
            d = disk_of v;
            o' = Some s';
            lived = l';
            fair = subst (λ (y : Outcome (Plan ℕ Session)). Fair L n bank u (served y v) (Some (acted y s v.device).session) (disk_of v) (Some s')) (sym e) f;
            account = λ acc A. (
              acc,
              a acc A,
              sym (ap (λ (y : Outcome (Plan ℕ Session)). cond (went (acted y s v.device).answer) (acc ++ (record { transaction = region_bytes bytes regions; safe = false } ∷ [])) acc) e),
            );
          }
          by (Ok p) e =
              let V = life_stands (real L n bank u) base (disk_of v) (Some s') l' in
              let c = commit_step L n bank u wide v.device s s' bytes regions p f.size f.match (V.steady s' refl) k e in
              let r : Rec = c.0 in
              let X : List Action = calls.record_writes (real L n bank u) r s'.t s'.e in
              let R : Ran L n bank u v X =
              ran L n bank u v X f.size f.listed f.kept (inside_below (real L n bank u) X (commit_inside (real L n bank u) r s'.t s'.e))
              (puts_sized (real L n bank u) r s'.t s'.e c.3) in
              let w : went (commit_call v.device s bank bytes regions).answer ≡ (disk.run X (disk_of v)).1 =
              ap (λ (y : Outcome (Plan ℕ Session)). went (acted y s v.device).answer) e ∙ acts_went L n bank u (λ x. Some x) p s v X c.2 R in
              record {
                d = (disk.run X (disk_of v)).0;
                o' = Some (cond (disk.run X (disk_of v)).1 (calls.committed s' r) s');
                lived = life.commits l' r (region_bytes bytes regions) c.1;
                fair = subst (λ (y : Outcome (Plan ℕ Session)). Fair L n bank u (served y v) (Some (acted y s v.device).session) (disk.run X (disk_of v)).0
                    (Some (cond (disk.run X (disk_of v)).1 (calls.committed s' r) s'))) (sym e)
                    (acts_fair L n bank u (λ x. Some x) p s v X c.2 R (λ t. Some (cond t (calls.committed s' r) s')) c.4 f.match);
                account = λ acc A. (
                  A.0,
                  a A.0 A.1,
                  A.3 ∙ ap (λ t. cond t (A.0 ++ (record { transaction = region_bytes bytes regions; safe = false } ∷ [])) A.0) (sym w),
                );
              }

  -- Force.

  pub force_shown : {v : Volume} {s : Session} (l : Life L n bank base v (Some s)) → Shown L n bank u base l → Shown L n bank u base (forces l)
  force_shown {v} {s} l S = normal L n bank u base l (Shown L n bank u base (forces l)) S go
    where
      p : Plan (Unit {0}) Session
      p = record { actions = force ∷ []; answer = tt; session = settles s }

      go : (o' : Option calls.Session) (l' : life.Life (real L n bank u) base (disk_of v) o') → Fair L n bank u v (Some s) (disk_of v) o' →
          ((acc : List Entry) → life.Account l' acc → Account l acc) → Shown L n bank u base (forces l)
      go None l' f a = elim f.match [ ]
      go (Some s') l' f a =
          let m : Matches L n bank s s' = f.match in
          let X : List Action = force ∷ [] in
          let R : Ran L n bank u v X = ran L n bank u v X f.size f.listed f.kept tt tt in
          let w : Matches L n bank (settles s) (calls.settles s') =
          record { label = m.label; e = m.e; t = m.t; a = m.e; newest = m.newest; book = m.book } in
          record {
            d = (disk.run X (disk_of v)).0;
            o' = Some (cond (disk.run X (disk_of v)).1 (calls.settles s') s');
            lived = life.forces l';
            fair = acts_fair L n bank u (λ x. Some x) p s v X refl R (λ t. Some (cond t (calls.settles s') s')) w m;
            account = λ acc A. (A.0, a A.0 A.1, A.2 ∙ ap (λ t. cond t (secure A.0) A.0) (sym (acts_went L n bank u (λ x. Some x) p s v X refl R)));
          }

  -- Cut.

  pub cut_shown : {v w : Volume} {o : Option Session} (l : Life L n bank base v o) (k : Cut v w) → Shown L n bank u base l → Shown L n bank u base (cuts l k)
  cut_shown {v} {w} {o} l k S = normal L n bank u base l (Shown L n bank u base (cuts l k)) S go
    where
      go : (o' : Option calls.Session) (l' : life.Life (real L n bank u) base (disk_of v) o') → Fair L n bank u v o (disk_of v) o' →
          ((acc : List Entry) → life.Account l' acc → Account l acc) → Shown L n bank u base (cuts l k)
      go o' l' f a =
          record {
            d = disk_of w;
            o' = None;
            lived = life.cuts l' (record { each = λ j. held j (cases_lt j v.device.size); same = k.same });
            fair = record {
              shows = refl;
              match = tt;
              size = k.size ∙ f.size;
              listed = k.listed ∙ f.size;
              kept = (
                λ j. subst (λ (x : List Sector). In (sector_at w.device j) x) (sym (k.same j)) (held j (cases_lt j v.device.size)),
                λ j. subst (λ (x : List Sector). AllByRecursion (SizedAt j) x) (sym (k.same j)) (f.kept.1 j),
              );
            };
            account = λ acc A. a acc A;
          }
        where
          held : (j : ℕ) → (j < v.device.size) ⊎ (v.device.size ≤ j) → In (sector_at w.device j) (v.past j)
          held j (inl h) = k.each j h
          held j (inr h) =
              let x : sector_at w.device j ≡ unreadable = get_or_past w.device.contents j unreadable (omega (arith, k.listed, h)) in
              let y : sector_at v.device j ≡ unreadable = get_or_past v.device.contents j unreadable (omega (arith, f.listed, f.size, h)) in
              subst (λ (z : Sector). In z (v.past j)) (y ∙ sym x) (f.kept.0 j)

  -- Clear.

  pub clear_shown : {v : Volume} {s : Session} (l : Life L n bank base v (Some s)) (work : ℕ) → Shown L n bank u base l → Shown L n bank u base (clears l work)
  clear_shown {v} {s} l work S = normal L n bank u base l (Shown L n bank u base (clears l work)) S go
    where
      go : (o' : Option calls.Session) (l' : life.Life (real L n bank u) base (disk_of v) o') → Fair L n bank u v (Some s) (disk_of v) o' →
          ((acc : List Entry) → life.Account l' acc → Account l acc) → Shown L n bank u base (clears l work)
      go None l' f a = elim f.match [ ]
      go (Some s') l' f a = by (clear_plan v.device s bank work) refl
        where
          K : Facts L n bank u base v
          K = facts L n bank u base v (Some s') l' f.kept

          q : Rec
          q = clearing_rec s.newest

          with_chain : (p : Plan (Unit {0}) Session) → clear_plan v.device s bank work ≡ Ok p →
              ClearSteps L n bank u v.device s.newest s' (finding L n bank u v.device f.size K.full K.label K.whole K.found) p →
              ((r : Reading) × (read_chain v.device L bank (finding L n bank u v.device f.size K.full K.label K.whole K.found) ≡ Ok r)
              × ChainRead L n bank (real L n bank u) K.found.chain r × Readable (sector_at v.device) (chain_items (real L n bank u) K.found.chain))
              ⊎ Three (read_chain v.device L bank (finding L n bank u v.device f.size K.full K.label K.whole K.found)) →
              Shown L n bank u base (clears l work)
          with_chain p e c (inr x) =
              let w : ◌≡◌ {A = Outcome Reading} (Ok c.3) (Err x.0) = sym c.4 ∙ x.1 in
              let z : ◌≡◌ {A = ℕ} 0 1 = cc in let y : ⊥ = omega arith in elim y [ ]
          with_chain p e c (inl x) =
              let w : ◌≡◌ {A = Outcome Reading} (Ok x.0) (Ok c.3) = sym x.1 ∙ c.4 in
              let r : x.0 ≡ c.3 = cc in
              let X : List Action = calls.clearings (real L n bank u) (sector_at v.device) s'.e K.found.chain q in
              let same : p.actions ≡ X =
              c.5 ∙ ap (λ (l : List Action). force ∷ (l ++ (force ∷ (calls.record_writes (real L n bank u) q s'.e s'.e ++ (force ∷ [])))))
              (ap (patches v.device) (sym r) ∙ patches_same L n bank u v.device f.size K.full K.label K.whole K.found x.0 x.2 x.3) in
              let P : calls.Plan (real L n bank u) (sector_at v.device) K.found.m K.found.h K.found.n s'.e s'.t K.found.chain =
              subst (λ (z : ℕ). calls.Plan (real L n bank u) (sector_at v.device) K.found.m K.found.h K.found.n s'.e z K.found.chain) c.2
              (subst (λ (z : ℕ). calls.Plan (real L n bank u) (sector_at v.device) K.found.m K.found.h K.found.n z K.found.t K.found.chain) c.1 K.found.plan) in
              let R : Ran L n bank u v X =
              ran L n bank u v X f.size f.listed f.kept
              (inside_below (real L n bank u) X (clear_inside (real L n bank u) (sector_at v.device) s'.e K.found.chain q K.found.sound x.3))
              (clearings_sized (real L n bank u) (sector_at v.device) s'.e K.found.chain q x.3 c.7) in
              let g : went (clear_call v.device s bank work).answer ≡ (disk.run X (disk_of v)).1 =
              ap (λ (y : Outcome (Plan (Unit {0}) Session)). went (acted y s v.device).answer) e ∙ acts_went L n bank u (λ x. Some x) p s v X same R in
              record {
                d = (disk.run X (disk_of v)).0;
                o' = Some (cond (disk.run X (disk_of v)).1 (calls.cleared s' q) s');
                lived = life.clears l' q c.0 P x.3;
                fair = subst (λ (y : Outcome (Plan (Unit {0}) Session)). Fair L n bank u (served y v) (Some (acted y s v.device).session) (disk.run X (disk_of v)).0
                    (Some (cond (disk.run X (disk_of v)).1 (calls.cleared s' q) s'))) (sym e)
                    (acts_fair L n bank u (λ x. Some x) p s v X same R (λ t. Some (cond t (calls.cleared s' q) s')) c.6 f.match);
                account = λ acc A. (A.0, a A.0 A.1, A.3 ∙ ap (λ t. cond t (secure A.0) A.0) (sym g));
              }

          by : (x : Outcome (Plan (Unit {0}) Session)) → clear_plan v.device s bank work ≡ x → Shown L n bank u base (clears l work)
          by (Err r) e = record {
            d = disk_of v;
            o' = Some s';
            lived = l';
            fair = subst (λ (y : Outcome (Plan (Unit {0}) Session)). Fair L n bank u (served y v) (Some (acted y s v.device).session) (disk_of v) (Some s')) (sym e) f;
            account = λ acc A. (acc, a acc A, sym (ap (λ (y : Outcome (Plan (Unit {0}) Session)). cond (went (acted y s v.device).answer) (secure acc) acc) e));
          }
          by (Ok p) e =
              let V = life_stands (real L n bank u) base (disk_of v) (Some s') l' in
              with_chain p e
              (clear_step L n bank u v.device s s' work (finding L n bank u v.device f.size K.full K.label K.whole K.found) p f.match (V.steady s' refl)
              (book_listed L n bank u s s' f.match) (sought_here L n bank u v.device f.size K.full K.label K.whole K.found) e)
              (chain_here L n bank u v.device f.size K.full K.label K.whole K.found)

  -- Replay.

  -- the items of transactions, as lives and as the account see them
  pub items_same : (xs : List Transaction) → format.all_items (real L n bank u) xs ≡ all_items bank xs
  items_same [] = refl
  items_same (x ∷ xs) = ap (λ l. (real L n bank u).items x ++ l) (items_same xs)

  pub home_here : (i : ℕ) → Home L n i → calls.Home (real L n bank u) i
  home_here i h = record { later = h.later; inside = h.inside; free = λ x e. go x e h.free }
    where
      go : (x : ℕ) → L.start + x % L.count ≡ i → (i < L.start) ⊎ (L.start + L.count ≤ i) → ⊥
      go x e (inl a) = omega (arith, e, a)
      go x e (inr a) = omega (arith, e, a, mod-lt x (sane L n u).some)

  -- a chain begins past the first turn
  pub chain_late : (c : ℕ → Sector) (p e : ℕ) (chain : List Rec) → calls.Chain (real L n bank u) c p e chain → p < e → L.count ≤ p
  chain_late c p e [] k l = let z : ⊥ = omega (arith, k, l) in elim z [ ]
  chain_late c p e (r ∷ rs) k l = k.1.1.begun

  -- the actions of a replay, run on a volume
  pub replay_ran : (v : Volume) (o : Option Session) (o' : Option calls.Session) → Fair L n bank u v o (disk_of v) o' → (K : Facts L n bank u base v) → Readable (sector_at v.device) (chain_items (real L n bank u) K.found.chain) →
      Ran L n bank u v (calls.replays (real L n bank u) (sector_at v.device) K.found.m K.found.e K.found.chain)
  replay_ran v o o' f K x =
      let X : List Action = calls.replays (real L n bank u) (sector_at v.device) K.found.m K.found.e K.found.chain in
      ran L n bank u v X f.size f.listed f.kept
      (inside_below (real L n bank u) X (replay_inside (real L n bank u) (sector_at v.device) K.found.m K.found.e K.found.chain K.found.sound x))
      (replays_sized (real L n bank u) (sector_at v.device) K.found.m K.found.e K.found.chain x
      (omega (arith, K.found.plan.before, chain_late (sector_at v.device) K.found.t K.found.e K.found.chain K.found.plan.chained K.found.plan.before))
      K.found.plan.greatest.low)
