-- Which marks a node can get, on what the code holds of a node and of a block (rules F2 to F4). Definitions only.
use Rattle.std.specs.Prelude.{Bool, true, false, cond, ◌&&◌, ◌||◌, not, List, [], ◌∷◌, ℕ, suc, ◌+◌, ◌/◌, ◌%◌, eqb}
use Rattle.find_way.specs.declared.Marks.{Marks}
use Rattle.find_way.specs.declared.Hope.{Hope}

-- F4: the marks as one byte
unfoldable pub packed : Marks → ℕ
packed m = ((cond m.idle 1 0 + cond m.done 2 0) + cond m.failed 4 0) + cond m.down 8 0

-- F4: the marks in a byte
unfoldable pub unpacked : ℕ → Marks
unpacked b = record { idle = eqb (b % 2) 1; done = eqb (b / 2 % 2) 1; failed = eqb (b / 4 % 2) 1; down = eqb (b / 8 % 2) 1 }

-- F2: the kinds that go on while children work, and those that go on while they fail
unfoldable pub as_and : ℕ → Bool
as_and k = (eqb k 2 || eqb k 3) || eqb k 8

-- F2: or, contingency
unfoldable pub as_or : ℕ → Bool
as_or k = eqb k 4 || eqb k 6

-- F3: a child with which a block of kind k stays undecided
unfoldable pub keeps : ℕ → Marks → Bool
keeps k c = (((as_and k && c.done) || (as_or k && c.failed)) || (eqb k 5 && (c.down || c.failed))) || (eqb k 7 && c.idle)

-- F3: a child that decides it; `ok`: its place may be the answer
unfoldable pub turns : ℕ → Bool → Marks → Bool
turns k ok c = ((as_and k && c.failed) || (as_or k && c.done)) || (((eqb k 5 || eqb k 7) && c.done) && ok)

-- F2, F3: a child behind that one
unfoldable pub rests : ℕ → Marks → Bool
rests k c = ((((eqb k 2 || eqb k 6) || eqb k 7) && c.idle) || (((eqb k 3 || eqb k 4) || eqb k 8) && (c.done || c.failed))) || (eqb k 5 && (c.down || c.failed))

-- F3: a child of a block that none decides
unfoldable pub plains : ℕ → Marks → Bool
plains k c = (as_and k && c.done) || (not (as_and k) && c.failed)

-- F2, F3: one child more
unfoldable pub joined : ℕ → Bool → Marks → Hope → Hope
joined k ok c h = record {
  idle = h.idle && c.idle;
  plain = h.plain && plains k c;
  keep = h.keep && keeps k c;
  turn = (h.turn && rests k c) || (h.keep && turns k ok c);
  other = (h.other && rests k c) || (h.keep && (c.failed && ok));
}

-- F2: before the first child
unfoldable pub unseen : Hope
unseen = record { idle = true; plain = true; keep = true; turn = false; other = false }

-- F2, F3: and after the children cs, n of them before; `seen c` is what c can get, `ok n` says that place n may be the answer
unfoldable pub hope_on : (ℕ → Bool) → ℕ → (ℕ → Marks) → ℕ → Hope → List ℕ → Hope
hope_on ok k seen n h [] = h
hope_on ok k seen n h (c ∷ cs) = hope_on ok k seen (suc n) (joined k (ok (suc n)) (seen c) h) cs

-- F3: a node of kind k can work, with answer 1 if `one`
unfoldable pub works_to : ℕ → Bool → Hope → Bool
works_to k one h = ((eqb k 1 && one) || (as_and k && h.plain)) || (((as_or k || eqb k 5) || eqb k 7) && h.turn)

-- F3: it can fail, with answer 0 if `zero`, with 2 if `two`
unfoldable pub breaks_to : ℕ → Bool → Bool → Hope → Bool
breaks_to k zero two h = ((((eqb k 1 && two) || (as_and k && h.turn)) || (as_or k && h.plain)) || ((eqb k 5 && zero) && h.plain)) || (eqb k 7 && h.other)

-- F4: the marks that it can get, any if `free`, else m alone
unfoldable pub marks_by : ℕ → Bool → Bool → Bool → Hope → Bool → ℕ → Marks
marks_by k zero one two h free m = record {
  idle = h.idle && (free || eqb m 0);
  done = works_to k one h && (free || eqb m 3);
  failed = breaks_to k zero two h && (free || eqb m 4);
  down = works_to k one h && (free || eqb m 5);
}

-- F4: what c can get, as the code holds it
unfoldable pub marks_at : (ℕ → ℕ → Bool) → ℕ → Marks
marks_at can c = record { idle = can c 0; done = can c 3; failed = can c 4; down = can c 5 }
