-- Document 01, "The table": "The host lends the row of stream records." How a host keeps a record is its own matter: as numbers, or as the record itself. What
-- the calls do is said once, over any way of keeping: S is the record, A what is kept of it.
pub record Keeping (S A : Type 0) : Type 0 where
  -- what stands past the table's end; it reads as a record that is not in use
  pub none : A
  -- the record that is kept
  pub read : A → S
  -- what is kept once a record is stored over what stood there
  pub store : A → S → A
  -- "Remove clears "in use" and changes nothing else."
  pub clear : A → A

-- the records themselves, with what stands past the table's end and what clears a record
abbrev pub plainly : {S : Type 0} → S → (S → S) → Keeping S S
plainly none clear = record { none = none; read = λ s. s; store = λ old s. s; clear = clear }
