-- Laws of an action's answer and effect. Callers cite them.
pub mod Calls  -- an action refused or accepted
