pub mod Usable
pub mod Memory
pub mod Rates
pub mod RatesCode
