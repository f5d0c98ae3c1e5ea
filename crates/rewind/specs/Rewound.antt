-- How going back is done (rule M6): whether a step can be taken back goes by the plan and its entry alone, so the entries are looked at first, and bits
-- are cleared only if nothing is wrong with any of them. The contracts of private functions cite this; no rule is stated here. Definitions only.
use Rattle.std.specs.Prelude.{cond, List, ℕ, zero, suc, ◌-◌, eqb, get_or}
use Rattle.event.specs.Site.{Layout}
use Rattle.journal.specs.declared.Entry.{Entry}
use Rattle.journal.specs.Journal.{no_entry, entry_fault, taken_back}

-- the last of k entries
abbrev pub last_of : List Entry → ℕ → Entry
last_of es k = get_or es (k - 1) no_entry

module _ (p : List ℕ) (lay : Layout) (row : ℕ → ℕ) where
  -- the first number met in n entries from the last of k on; 0 where there is none
  unfoldable pub first_fault : List Entry → ℕ → ℕ → ℕ
  first_fault es zero k = 0
  first_fault es (suc n) k = cond (eqb (entry_fault p lay row (last_of es k)) 0) (first_fault es n (k - 1)) (entry_fault p lay row (last_of es k))

  -- the state with n entries from the last of k on taken back
  unfoldable pub rewound : List ℕ → List Entry → ℕ → ℕ → List ℕ
  rewound st es zero k = st
  rewound st es (suc n) k = rewound (taken_back p lay row st (last_of es k)) es n (k - 1)
