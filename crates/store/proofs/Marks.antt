-- Mark bytes and the marks that they stand for.
use Prim.Native.Nat.{ℕ, ◌+◌, ◌-◌, ◌%◌, ◌≤◌, ◌<◌}
use native.Mathlib.Omega.{arith}
use mathlib.Core.Path.{◌≡◌, refl, sym, ap, ◌∙◌}
use mathlib.Core.Bool.{true, false, true≢false}
use mathlib.Core.List.{List}
use borrow.Author.Tests.{lt-ltb, le-ltb, ltb-true, ltb-false, leb-true, le-leb}
use lib.Dec.{ltb}
use Rattle.basis.proofs.Tests.{both, and_of_lem, split, all-at}
use Rattle.store.specs.declared.Mode.{Mode}
use Rattle.store.specs.declared.Mode.TheVariants.{Strict, Permissive}
use Rattle.store.specs.Marks.{Mark, whole, partial, level_of, is_partial, mark_of, byte_of, mark_known, mark_taken}
use Rattle.store.specs.Stores.{mark_at, marks_right}

-- a byte below 16 is whole, any other partial
pub mark-whole : (byte : ℕ) → byte < 16 → mark_of byte ≡ whole byte
unfolding mark_of
mark-whole byte h = rw (lt-ltb byte 16 h)

mark_partial : (byte : ℕ) → 16 ≤ byte → mark_of byte ≡ partial (byte - 16)
unfolding mark_of
mark_partial byte h = rw (le-ltb byte 16 h)

by_mark : (P : ℕ → Type 0) (byte : ℕ) → (byte < 16 → P byte) → (16 ≤ byte → P byte) → P byte
by_mark P byte low high = split (ltb byte 16) (λ t. low (ltb-true byte 16 t)) (λ f. high (ltb-false byte 16 f))

-- a mark is its level, whole or partial
pub is_whole : (m : Mark) → is_partial m ≡ false → m ≡ whole (level_of m)
is_whole (whole a) e = refl
is_whole (partial a) e = absurd (true≢false e)

pub is_partial_lem : (m : Mark) → is_partial m ≡ true → m ≡ partial (level_of m)
is_partial_lem (whole a) e = absurd (true≢false (sym e))
is_partial_lem (partial a) e = refl

-- the mark of a level is 16 less than the partial mark there
partial_mark : (level : ℕ) → mark_of (level + 16) ≡ partial level
partial_mark level = let back : level + 16 - 16 ≡ level = omega arith in mark_partial (level + 16) (omega arith) ∙ ap partial back

pub level-is : (byte : ℕ) → byte < 32 → level_of (mark_of byte) ≡ byte % 16
level-is byte few =
    by_mark (λ b. b < 32 → level_of (mark_of b) ≡ b % 16) byte
    (λ low _. ap level_of (mark-whole byte low) ∙ omega arith)
    (λ high _. ap level_of (mark_partial byte high) ∙ omega arith)
    few

pub level-most : (byte : ℕ) → level_of (mark_of byte) ≤ byte
level-most byte =
    by_mark (λ b. level_of (mark_of b) ≤ b) byte
    (λ low. rw (mark-whole byte low) (omega arith))
    (λ high. rw (mark_partial byte high) (omega arith))

-- a byte and its mark make each other; no sheet has a level above 15
pub byte_back : (byte : ℕ) → byte_of (mark_of byte) ≡ byte
byte_back byte = by_mark (λ b. byte_of (mark_of b) ≡ b) byte (λ low. ap byte_of (mark-whole byte low)) (λ high. ap byte_of (mark_partial byte high) ∙ omega arith)

pub mark_back : (m : Mark) → level_of m < 16 → mark_of (byte_of m) ≡ m
mark_back (whole a) h = mark-whole a h
mark_back (partial a) h = partial_mark a

-- ── marks that are known ────────────────────────────────────────────────────────────────────

-- a known mark has a level
pub known_is : (levels byte : ℕ) → mark_known levels byte ≡ true → (byte < 32) × (level_of (mark_of byte) < levels)
unfolding mark_known
known_is levels byte h =
    let (few, level) = both _ _ h in
    let most = leb-true byte 31 few in
    let inside = ltb-true (byte % 16) levels level in
    (omega arith, rw (level-is byte (omega arith)) inside)

pub known_of : (levels byte : ℕ) → byte < 32 → level_of (mark_of byte) < levels → mark_known levels byte ≡ true
unfolding mark_known
known_of levels byte few level = and_of_lem (le-leb byte 31 (omega arith)) (lt-ltb _ _ (rw (level-is byte few) at level))

pub known_at : (levels byte : ℕ) {m : Mark} → mark_of byte ≡ m → byte < 32 → level_of m < levels → mark_known levels byte ≡ true
known_at levels byte is few level = known_of levels byte few (rw is level)

-- a mark that a run takes is known
taken-known : (mode : Mode) (levels byte : ℕ) → mark_taken mode levels byte ≡ true → mark_known levels byte ≡ true
taken-known Strict levels byte e = (both _ _ e).0
taken-known Permissive levels byte e = e

pub marks-known : (mode : Mode) (levels fields : ℕ) (store : List ℕ) → marks_right mode levels fields store ≡ true
    → (i : ℕ) → i < fields → mark_known levels (mark_at store i) ≡ true
unfolding marks_right
marks-known mode levels fields store e i h = taken-known mode levels _ (all-at fields (λ i. mark_taken mode levels (mark_at store i)) e i h)
