pub mod BoxLines
