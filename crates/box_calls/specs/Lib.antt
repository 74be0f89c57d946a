pub mod BoxCalls
