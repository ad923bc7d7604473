-- What is asked for what may be there, as its callers see it.

-- the indices at which something stands, and what is asked there
pub record Asked (M V : Type 0) : Type 0 where
  pub mask : M
  pub values : V
