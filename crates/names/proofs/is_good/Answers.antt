-- A first byte that is a letter, and then the windows: each is a byte and the next.
use Rattle.std.proofs.Common.{◌≡◌, ℕ, ◌+◌, ◌-◌, ◌≤◌, length, get_or, Bool, true, false, List, Bor, Option, Some, None, sym, ap, ap₂, ◌∙◌, arith, rules, IsTrue, add-zero, zero-add}
use borrow.Author.Tests.{tests}
use Rattle.std.specs.Fn.{Called}
use Rattle.std.specs.Bool.{MatchBool}
use Rattle.std.specs.Option.{IfSome, IsSomeAnd, option_map}
use Rattle.std.specs.List.{IsSubsliceAt}
use Rattle.std.specs.Slice.Iter.{windows_steps}
use Rattle.std.specs.Iterator.Runs.{Run, IsWindowsRun, CallKeepsClosure, AllItemsGive, AnyItemGives}
use denote.Param.Members.{Mut}
use Rattle.basis.specs.Tests.{all}
use Rattle.basis.proofs.Tests.{all_of, all-fails, all_same}
use Rattle.names.specs.Names.{is_letter, may_follow, follows_at, good_name}
use Rattle.names.proofs.is_good.Goals as goal

-- where calls leave a closure as it was, and it tests the two bytes of a window, `all` tests each byte and the next
module _ {F : Type 0} {g : Mut F (Bor (List ℕ) × Unit {0}) Bool} (f : F) (test : ℕ → ℕ → Bool)
    (calls : (x : Bor (List ℕ)) (b : Bool) (q : F) → Called g f (x, tt) b q → (q ≡ f) × (b ≡ test (get_or x.now 0 0) (get_or x.now 1 0))) (xs : List ℕ) where
  abbrev TestAt : ℕ → Bool
  TestAt k = test (get_or xs k 0) (get_or xs (k + 1) 0)

  abbrev Window : ℕ → Bor (List ℕ) → Type 0
  Window k x = (length x.now ≡ 2) × (k + 2 ≤ length xs) × IsSubsliceAt 2 xs k x.now

  found : (o : Option (Bor (List ℕ))) (k : ℕ) (b : Bool) → IfSome o (Window k) → IsSomeAnd o (λ x. Called g f (x, tt) b f) → (k + 2 ≤ length xs) × (TestAt k ≡ b)
  found None k b w call = elim call [ ]
  found (Some x) k b w call =
      let first = w.2.2 0 0 (omega arith) ∙ ap (λ (i : ℕ). get_or xs i 0) (add-zero k) in
      (w.1, ap₂ test (sym first) (sym (w.2.2 1 0 (omega arith))) ∙ sym (calls x b f call).1)

  sure : (Q : Bor (List ℕ) → Type 0) (o : Option (Bor (List ℕ))) {n : ℕ} → option_map (λ x. get_or x.now 0 0) o ≡ Some n → IfSome o Q → IsSomeAnd o Q
  sure Q None e q = absurd (cc)
  sure Q (Some x) e q = q

  keeps : CallKeepsClosure g f
  keeps a b q call = (calls a.0 b q call).0

  all_windows : (p : Run windows_steps) (r : Bool) → IsWindowsRun p 2 xs → MatchBool r (IsTrue p.whole × AllItemsGive p g f true) (AnyItemGives p g f false) → r ≡ all (length xs - 1) TestAt
  all_windows p true w (whole, give) =
      let count = w.1 whole in
      sym (all_of _ TestAt (λ k l. (found (p.at k) k true (w.2 k) (sure _ (p.at k) (w.3 k 0 (omega arith)) (give keeps k))).1))
  all_windows p false w give =
      let (k, few, call) = give keeps in
      let at = found (p.at k) k false (w.2 k) call in
      sym (all-fails TestAt _ k (omega arith) at.1)

pub returns-then-is_ascii_lowercase : goal.returns-then-is_ascii_lowercase
unfolding good_name
returns-then-is_ascii_lowercase c =
    let name = c.args.name.now in
    let (p, from, said) = c.all.ensures.runs in
    let run = rw (from, c.windows.ensures.size, c.windows.ensures.rest) at (c.windows.ensures.runs p p.seen) in
    let same = all_windows _ may_follow (λ x b q call. search (rules, tests)) name p c.all.result (run (omega arith)) said in
    let first : is_letter (get_or name 0 0) ≡ true = sym c.is_ascii_lowercase.ensures.value ∙ c.if-is_ascii_lowercase.true in
    rw first (rw c.told-name at same ∙ all_same 7 _ (follows_at name 0) (λ j _. rw (zero-add j, zero-add (j + 1))))
