pub mod GoodputLaws
