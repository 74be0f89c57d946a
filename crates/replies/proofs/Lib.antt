pub mod Airtime
