-- A member behind the others, in tuples of more than twelve members, which are nested pairs.

-- the first member stays, and the new one is placed behind the others
abbrev pub past : {A B C D : Type 0} → (B → C → D) → A × B → C → A × D
past place all last = (all.0, place all.1 last)

-- the same of the first four members
abbrev pub past_four : {A B C D R L T : Type 0} → (R → L → T) → A × (B × (C × (D × R))) → L → A × (B × (C × (D × T)))
past_four place = past (past (past (past place)))
