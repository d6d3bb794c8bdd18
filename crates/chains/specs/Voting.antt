-- Reed's votes find every bit of a word that lies near enough. Assumes nothing.
use Rattle.std.specs.Prelude.{◌≡◌, ℕ, zero, suc, ◌+◌, ◌*◌, ◌%◌, ◌<◌, ◌≤◌, min, Bool, true, false, cond, ◌&&◌, List, [], ◌∷◌, length, drop, replicate, ◌==◌, ◌≢◌, nat_lt, refl}
use Rattle.std.proofs.Common.{sym, ap, ◌∙◌, add-mul, arith}
use Rattle.std.specs.List.{AllByRecursion}
use Rattle.std.proofs.ByRecursion.{All-weaker}
use Rattle.std.proofs.lemmas.List.{length-replicate}
use Rattle.std.proofs.lemmas.Bool.{eqb-true, eqb-false, lt-ltb, le-ltb}
use Rattle.chains.specs.Bits.{total}
use Rattle.chains.specs.Model.{Cells}
use Rattle.chains.specs.Votes.{Column, meet, votes, elected, added, turned, laid, settled, left_harm}

-- how many of some sets each place is in
abbrev pub sums : List ℕ → List ℕ → List ℕ
sums [] ys = []
sums (x ∷ xs) [] = []
sums (x ∷ xs) (y ∷ ys) = (x + y) ∷ sums xs ys

abbrev pub overlay : ℕ → List (List ℕ) → List ℕ
overlay n [] = replicate n 0
overlay n (set ∷ sets) = sums set (overlay n sets)

-- a check sum of a bit: odd on its own column and even on the later ones
abbrev pub GoodSet : ℕ → List ℕ → List Column → List ℕ → Type 0
GoodSet n own later set = Cells n set × (meet set own % 2 ≡ 1) × AllByRecursion (λ (d : Column). meet set d.reaches % 2 ≡ 0) later

-- every column has such check sums, and each cell is in just one of them
abbrev pub Good : ℕ → List Column → Type 0
Good n [] = Unit {0}
Good n (c ∷ cs) = Cells n c.reaches × AllByRecursion (GoodSet n c.reaches cs) c.checks × (overlay n c.checks ≡ replicate n 1) × Good n cs

pub added_cells : (n : ℕ) (x y : List ℕ) → Cells n x → Cells n y → Cells n (added x y)
added_cells n [] y fx fy = (fx.0, tt)
added_cells n (a ∷ x) [] fx fy = absurd (omega (arith, fx.0, fy.0))
added_cells n (a ∷ x) (b ∷ y) fx fy =
    let rest = added_cells (length x) x y (refl, fx.1.1) (omega (arith, fx.0, fy.0), fy.1.1) in
    (ap suc rest.0 ∙ fx.0, (omega arith, rest.1))

pub turned_cells : (n b : ℕ) (c : Column) (y : List ℕ) → Cells n c.reaches → Cells n y → Cells n (turned b c y)
turned_cells n b c y fc fy = elim (b == 0) as (λ t. Cells n (cond t y (added y c.reaches))) [ true ↦ fy | false ↦ added_cells n y c.reaches fy fc ]

-- the sum over a set is that of two rows together
meet_at : (s x y : ℕ) → s < 2 → x < 2 → y < 2 → min s ((x + y) % 2) % 2 ≡ (min s x + min s y) % 2
meet_at zero x y hs hx hy = omega arith
meet_at (suc zero) x y hs hx hy = omega arith
meet_at (suc (suc s)) x y hs hx hy = absurd (omega arith)

meet_added : (n : ℕ) (set x y : List ℕ) → Cells n set → Cells n x → Cells n y → meet set (added x y) % 2 ≡ (meet set x + meet set y) % 2
meet_added n [] x y fs fx fy = refl
meet_added n (s ∷ set) [] y fs fx fy = absurd (omega (arith, fs.0, fx.0))
meet_added n (s ∷ set) (a ∷ x) [] fs fx fy = absurd (omega (arith, fx.0, fy.0))
meet_added n (s ∷ set) (a ∷ x) (b ∷ y) fs fx fy =
    omega (arith, meet_at s a b fs.1.0 fx.1.0 fy.1.0, meet_added (length set) set x y (refl, fs.1.1) (omega (arith, fs.0, fx.0), fx.1.1) (omega (arith, fs.0, fy.0), fy.1.1))

-- a set that is even on every column has the sum that was there before they were laid
meet_laid : (n : ℕ) (set : List ℕ) (cs : List Column) (bs y : List ℕ) → Cells n set → Good n cs → Cells n y → AllByRecursion (λ (d : Column). meet set d.reaches % 2 ≡ 0) cs → meet set (laid cs bs y) % 2 ≡ meet set y % 2
meet_laid n set [] bs y fs good fy even = refl
meet_laid n set (c ∷ cs) [] y fs good fy even = refl
meet_laid n set (c ∷ cs) (b ∷ bs) y fs good fy even =
    meet_laid n set cs bs (turned b c y) fs good.3 (turned_cells n b c y good.0 fy) even.1 ∙ by_bit (b == 0)
  where
    by_bit : (t : Bool) → meet set (cond t y (added y c.reaches)) % 2 ≡ meet set y % 2
    by_bit true = refl
    by_bit false = omega (arith, meet_added n set y c.reaches fs fy good.0, even.0)

pub laid_cells : (n : ℕ) (cs : List Column) (bs y : List ℕ) → Good n cs → Cells n y → Cells n (laid cs bs y)
laid_cells n [] bs y good fy = fy
laid_cells n (c ∷ cs) [] y good fy = fy
laid_cells n (c ∷ cs) (b ∷ bs) y good fy = laid_cells n cs bs (turned b c y) good.3 (turned_cells n b c y good.0 fy)

-- what each cell adds to the harm
abbrev hurts : List ℕ → List ℕ → List ℕ
hurts [] marks = []
hurts (x ∷ e) [] = []
hurts (x ∷ e) (mark ∷ marks) = cond (mark == 0) (2 * x) 1 ∷ hurts e marks

total_hurts : (e m : List ℕ) → total (hurts e m) ≡ left_harm e m
total_hurts [] m = refl
total_hurts (x ∷ e) [] = refl
total_hurts (x ∷ e) (k ∷ m) = ap (λ z. cond (k == 0) (2 * x) 1 + z) (total_hurts e m)

length_hurts : (e m : List ℕ) → length e ≡ length m → length (hurts e m) ≡ length e
length_hurts [] m l = refl
length_hurts (x ∷ e) [] l = absurd (omega arith)
length_hurts (x ∷ e) (k ∷ m) l = ap suc (length_hurts e m (omega arith))

-- the harm within a set
abbrev weigh : List ℕ → List ℕ → ℕ
weigh [] hs = 0
weigh (s ∷ set) [] = 0
weigh (s ∷ set) (h ∷ hs) = s * h + weigh set hs

weigh_sums : (n : ℕ) (a b hs : List ℕ) → length a ≡ n → length b ≡ n → length hs ≡ n → weigh (sums a b) hs ≡ weigh a hs + weigh b hs
weigh_sums n [] [] hs la lb lh = refl
weigh_sums n [] (y ∷ b) hs la lb lh = absurd (omega arith)
weigh_sums n (x ∷ a) [] hs la lb lh = absurd (omega arith)
weigh_sums n (x ∷ a) (y ∷ b) [] la lb lh = absurd (omega arith)
weigh_sums n (x ∷ a) (y ∷ b) (h ∷ hs) la lb lh =
    omega (arith, add-mul x y h, weigh_sums (length a) a b hs refl (omega arith) (omega arith))

weigh_none : (n : ℕ) (hs : List ℕ) → weigh (replicate n 0) hs ≡ 0
weigh_none zero hs = refl
weigh_none (suc n) [] = refl
weigh_none (suc n) (h ∷ hs) = omega (arith, weigh_none n hs)

weigh_all : (n : ℕ) (hs : List ℕ) → length hs ≡ n → weigh (replicate n 1) hs ≡ total hs
weigh_all zero [] l = refl
weigh_all zero (h ∷ hs) l = absurd (omega arith)
weigh_all (suc n) [] l = refl
weigh_all (suc n) (h ∷ hs) l = omega (arith, weigh_all n hs (omega arith))

-- blanks and wrong cells of a set weigh on it
weigh_at : (s x k : ℕ) → s < 2 → x < 2 → k < 2 → (min s k ≤ s * cond (k == 0) (2 * x) 1) × (2 * min s x ≤ s * cond (k == 0) (2 * x) 1 + min s k)
weigh_at zero x k hs hx hk = (omega arith, omega arith)
weigh_at (suc zero) x zero hs hx hk = (omega arith, omega arith)
weigh_at (suc zero) x (suc zero) hs hx hk = (omega arith, omega arith)
weigh_at (suc zero) x (suc (suc k)) hs hx hk = absurd (omega arith)
weigh_at (suc (suc s)) x k hs hx hk = absurd (omega arith)

weigh_set : (n : ℕ) (set e m : List ℕ) → Cells n set → Cells n e → Cells n m → (meet set m ≤ weigh set (hurts e m)) × (2 * meet set e ≤ weigh set (hurts e m) + meet set m)
weigh_set n [] e m fs fe fm = (omega arith, omega arith)
weigh_set n (s ∷ set) [] m fs fe fm = absurd (omega (arith, fs.0, fe.0))
weigh_set n (s ∷ set) (x ∷ e) [] fs fe fm = absurd (omega (arith, fs.0, fm.0))
weigh_set n (s ∷ set) (x ∷ e) (k ∷ m) fs fe fm =
    let here = weigh_at s x k fs.1.0 fe.1.0 fm.1.0 in
    let rest = weigh_set (length set) set e m (refl, fs.1.1) (omega (arith, fs.0, fe.0), fe.1.1) (omega (arith, fs.0, fm.0), fm.1.1) in
    (omega (arith, here.0, rest.0), omega (arith, here.1, rest.1))

-- of a bit b and its other o: a set that is left out weighs one, and one that speaks for o weighs two
set_vote : (b o y k e w : ℕ) → b + o ≡ 1 → e % 2 ≡ (y + b) % 2 → k ≤ w → 2 * e ≤ w + k → 1 + cond (k == 0 && y % 2 == o) 1 0 ≤ cond (k == 0 && y % 2 == b) 1 0 + w
set_vote b o y k e w other odd blank wrong = by_tests (k == 0) (y % 2 == b) (y % 2 == o) (eqb-true k 0) (eqb-false k 0) (eqb-true (y % 2) b) (eqb-false (y % 2) b) (eqb-true (y % 2) o)
  where
    by_tests : (t u v : Bool) → (t ≡ true → k ≡ 0) → (t ≡ false → k ≢ 0) → (u ≡ true → y % 2 ≡ b) → (u ≡ false → y % 2 ≢ b) → (v ≡ true → y % 2 ≡ o) → 1 + cond (t && v) 1 0 ≤ cond (t && u) 1 0 + w
    by_tests false u v kt kf ut uf vt = let some = kf refl in omega arith
    by_tests true true true kt kf ut uf vt = absurd (omega (arith, ut refl, vt refl))
    by_tests true true false kt kf ut uf vt = omega arith
    by_tests true false v kt kf ut uf vt =
        let none = kt refl in
        let unlike = uf refl in
        let two : 2 ≤ w = omega arith in
        elim v as (λ t. 1 + cond t 1 0 ≤ 0 + w) [ true ↦ omega arith | false ↦ omega arith ]

length_sums : (n : ℕ) (a b : List ℕ) → length a ≡ n → length b ≡ n → length (sums a b) ≡ n
length_sums n [] b la lb = la
length_sums n (x ∷ a) [] la lb = absurd (omega arith)
length_sums n (x ∷ a) (y ∷ b) la lb = ap suc (length_sums (length a) a b refl (omega arith)) ∙ la

length_overlay : (n : ℕ) (sets : List (List ℕ)) → AllByRecursion (λ set. length set ≡ n) sets → length (overlay n sets) ≡ n
length_overlay n [] all = length-replicate {A = ℕ} n 0
length_overlay n (set ∷ sets) all = length_sums n set (overlay n sets) all.0 (length_overlay n sets all.1)

-- all sets together, where each is wrong exactly as an odd number of its cells is
module _ (n b o : ℕ) (y m e : List ℕ) (other : b + o ≡ 1) (fe : Cells n e) (fm : Cells n m) where
  abbrev Reads : List ℕ → Type 0
  Reads set = Cells n set × (meet set e % 2 ≡ (meet set y + b) % 2)

  sets_vote : (sets : List (List ℕ)) → AllByRecursion Reads sets → length sets + votes o sets y m ≤ votes b sets y m + weigh (overlay n sets) (hurts e m)
  sets_vote [] all = omega arith
  sets_vote (set ∷ sets) all =
      let weight = weigh_set n set e m all.0.0 fe fm in
      let here = set_vote b o (meet set y) (meet set m) (meet set e) (weigh set (hurts e m)) other all.0.1 weight.0 weight.1 in
      let long = length_overlay n sets (All-weaker Reads (λ s. length s ≡ n) (λ s r. r.0.0) sets all.1) in
      let sum = weigh_sums n set (overlay n sets) (hurts e m) all.0.0.0 long (length_hurts e m (fe.0 ∙ sym fm.0) ∙ fe.0) in
      omega (arith, here, sum, sets_vote sets all.1)

  -- where each cell is in one set and the harm is less than the number of sets, more speak for b
  more_votes : (sets : List (List ℕ)) → AllByRecursion Reads sets → overlay n sets ≡ replicate n 1 → left_harm e m < length sets → votes o sets y m < votes b sets y m
  more_votes sets all cover near =
      let long = length_hurts e m (fe.0 ∙ sym fm.0) ∙ fe.0 in
      let whole : weigh (overlay n sets) (hurts e m) ≡ left_harm e m = ap (λ set. weigh set (hurts e m)) cover ∙ weigh_all n (hurts e m) long ∙ total_hurts e m in
      omega (arith, sets_vote sets all, whole)

elects : (n b : ℕ) (y m e : List ℕ) (sets : List (List ℕ)) → b < 2 → Cells n e → Cells n m → AllByRecursion (λ set. Cells n set × (meet set e % 2 ≡ (meet set y + b) % 2)) sets → overlay n sets ≡ replicate n 1 → left_harm e m < length sets → elected sets y m ≡ b
elects n zero y m e sets small fe fm all cover near =
    let more = more_votes n 0 1 y m e refl fe fm sets all cover near in
    ap (λ t. cond t 1 0) (le-ltb (votes 0 sets y m) (votes 1 sets y m) (omega arith))
elects n (suc zero) y m e sets small fe fm all cover near =
    let more = more_votes n 1 0 y m e refl fe fm sets all cover near in
    ap (λ t. cond t 1 0) (lt-ltb (votes 0 sets y m) (votes 1 sets y m) more)
elects n (suc (suc b)) y m e sets small fe fm all cover near = absurd (omega arith)

-- a good set's sum of what is left tells whether its sum of the reading is the bit
reads : (n b : ℕ) (c : Column) (cs : List Column) (bs y set : List ℕ) → b < 2 → Good n (c ∷ cs) → Cells n y → GoodSet n c.reaches cs set → meet set (laid cs bs (turned b c y)) % 2 ≡ (meet set y + b) % 2
reads n b c cs bs y set small good fy gs =
    meet_laid n set cs bs (turned b c y) gs.0 good.3 (turned_cells n b c y good.0 fy) gs.2 ∙ by_bit b small
  where
    by_bit : (k : ℕ) → k < 2 → meet set (turned k c y) % 2 ≡ (meet set y + k) % 2
    by_bit zero h = omega arith
    by_bit (suc zero) h = omega (arith, meet_added n set y c.reaches gs.0 fy good.0, gs.1)
    by_bit (suc (suc k)) h = absurd (omega arith)

-- the votes find the bits of every word that lies nearer than there are check sums
pub settles : (n : ℕ) (cs : List Column) (bs y m : List ℕ) → Good n cs → Cells n y → Cells n m → AllByRecursion (λ b. b < 2) bs → length bs ≡ length cs → AllByRecursion (λ (c : Column). left_harm (laid cs bs y) m < length c.checks) cs → settled cs y m ≡ bs
settles n [] [] y m good fy fm bits long near = refl
settles n [] (b ∷ bs) y m good fy fm bits long near = absurd (omega arith)
settles n (c ∷ cs) [] y m good fy fm bits long near = absurd (omega arith)
settles n (c ∷ cs) (b ∷ bs) y m good fy fm bits long near =
    let e = laid cs bs (turned b c y) in
    let fe = laid_cells n cs bs (turned b c y) good.3 (turned_cells n b c y good.0 fy) in
    let all = All-weaker (GoodSet n c.reaches cs) (λ set. Cells n set × (meet set e % 2 ≡ (meet set y + b) % 2)) (λ set gs. (gs.0, reads n b c cs bs y set bits.0 good fy gs)) c.checks good.1 in
    let here : elected c.checks y m ≡ b = elects n b y m e c.checks bits.0 fe fm all good.2 near.0 in
    ap (λ k. k ∷ settled cs (turned k c y) m) here
    ∙ ap (λ ks. b ∷ ks) (settles n cs bs (turned b c y) m good.3 (turned_cells n b c y good.0 fy) fm bits.1 (omega arith) near.1)

pub length_settled : (cs : List Column) (y m : List ℕ) → length (settled cs y m) ≡ length cs
length_settled [] y m = refl
length_settled (c ∷ cs) y m = ap suc (length_settled cs (turned (elected c.checks y m) c y) m)

pub elected_small : (sets : List (List ℕ)) (y m : List ℕ) → elected sets y m < 2
elected_small sets y m = elim (nat_lt (votes 0 sets y m) (votes 1 sets y m)) as (λ t. cond t 1 0 < 2) [ true ↦ omega arith | false ↦ omega arith ]

pub settled_small : (cs : List Column) (y m : List ℕ) → AllByRecursion (λ b. b < 2) (settled cs y m)
settled_small [] y m = tt
settled_small (c ∷ cs) y m = (elected_small c.checks y m, settled_small cs (turned (elected c.checks y m) c y) m)

pub good_drop : (n k : ℕ) (cs : List Column) → Good n cs → Good n (drop k cs)
good_drop n zero cs good = good
good_drop n (suc k) [] good = good
good_drop n (suc k) (c ∷ cs) good = good_drop n k cs good.3
